pub mod Examples
pub mod Readings
pub mod Spots
pub mod Outcomes
pub mod Orders
pub mod Theorems
