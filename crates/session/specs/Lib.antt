pub mod Call
pub mod Outcome
pub mod CallChecks
pub mod Ledger
pub mod Served
pub mod Stands
pub mod Meets
