pub mod Beside
pub mod Theorems
pub mod Comparisons
pub mod Checking
