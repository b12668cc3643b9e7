pub mod ByTable
pub mod Tallies
