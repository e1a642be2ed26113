mod Read
mod Whole
