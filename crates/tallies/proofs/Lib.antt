pub mod ByTable
pub mod Sets
pub mod Orders
