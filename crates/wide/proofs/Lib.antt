pub mod Greatest
pub mod Scaling
pub mod Halves
pub mod Search
pub mod Cuts
