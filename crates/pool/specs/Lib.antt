pub mod Spots
pub mod Pooling
pub mod Claims
