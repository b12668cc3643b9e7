pub mod Book
pub mod Reading
pub mod Claims
