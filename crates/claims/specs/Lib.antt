pub mod Claim
pub mod Looks
pub mod ByTable
pub mod Brighter
pub mod Stopped
