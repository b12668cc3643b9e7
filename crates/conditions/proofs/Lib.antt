pub mod Products
pub mod Dots
pub mod Fits
pub mod Sound
pub mod Opening
pub mod Answers
pub mod Measuring
pub mod Preparing
