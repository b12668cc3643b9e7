pub mod Standing
pub mod Rules
