pub mod Fractions
pub mod Limit
pub mod Planes
pub mod Extents
