pub mod Shades
pub mod Searching
pub mod Claims
