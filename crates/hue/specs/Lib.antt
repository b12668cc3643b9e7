pub mod Hue
pub mod InPlane
pub mod Claims
