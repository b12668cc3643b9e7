pub mod Trying
pub mod Looking
pub mod Simulation
pub mod Valid
pub mod Replies
