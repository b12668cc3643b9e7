pub mod Examples
pub mod Signs
pub mod Sizes
pub mod Theorems
