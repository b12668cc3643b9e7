pub mod Rule
pub mod Claims
pub mod Order
