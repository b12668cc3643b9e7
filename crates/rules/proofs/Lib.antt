pub mod InSpace
