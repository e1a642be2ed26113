pub mod PrintedLines
pub mod AuditFaults
pub mod PlayFaults
pub mod Options
pub mod Outputs
pub mod PrintFaults
