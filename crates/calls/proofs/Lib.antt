pub mod Turns
pub mod Ends
pub mod Claim
