pub mod White
pub mod Coordinates
pub mod Places
