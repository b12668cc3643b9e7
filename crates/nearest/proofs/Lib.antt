pub mod Sorted
pub mod Theorems
pub mod Held
pub mod Scan
pub mod Remaining
pub mod Turns
pub mod Examples
