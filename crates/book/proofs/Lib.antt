pub mod Tests
pub mod Sizes
pub mod Rules
pub mod Outcomes
pub mod Whole
pub mod Theorems
pub mod Rising
