pub mod Outcome
pub mod Checks
pub mod Tried
