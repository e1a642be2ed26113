mod Written
mod Told
