-- To be read and believed: all. Core is the table of functions and predicates, over Kinds, Integers, Collections and Predicates;
-- Meaning, Rule, Calls, Table and Actions say what a call, a rule, a table and an action are; Cause and Names are numbers and names, Limits is how much there may be.
pub mod Limits
pub mod Cause
pub mod Meaning
pub mod Kinds
pub mod Integers
pub mod Collections
pub mod Predicates
pub mod Core
pub mod Names
pub mod Rule
pub mod Calls
pub mod Args
pub mod Table
pub mod Actions
pub mod Lists
