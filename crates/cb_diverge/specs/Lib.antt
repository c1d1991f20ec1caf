pub mod Proper
pub mod Distances
