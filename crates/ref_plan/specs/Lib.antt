-- To be read and believed: Plan, Workload with what it cites (Declarations, Steps, Operations, Named, Words, Limits). Laws are proved. Stored and Tables are for private functions and fields. What plain forms say stands in ref_forms.
pub mod Plan
pub mod Stored
pub mod Words
pub mod Limits
pub mod Named
pub mod Operations
pub mod Steps
pub mod Declarations
pub mod Workload
pub mod Tables
pub mod Laws
