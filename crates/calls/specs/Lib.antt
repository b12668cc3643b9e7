pub mod Records
pub mod Run
pub mod Claim
