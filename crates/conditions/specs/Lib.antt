pub mod Weights
pub mod Checks
pub mod Conditions
pub mod Measure
pub mod Lent
