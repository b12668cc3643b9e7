pub mod Striking
pub mod Claims
