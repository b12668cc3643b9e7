pub mod Look
pub mod Looked
