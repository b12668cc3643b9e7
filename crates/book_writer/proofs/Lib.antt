pub mod Tests
pub mod Stored
pub mod Outcomes
pub mod Back
pub mod Shades
pub mod Theorems
