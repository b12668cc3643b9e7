pub mod LightRows
pub mod LightWhites
