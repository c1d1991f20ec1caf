pub mod Links
pub mod Names
pub mod Merging
pub mod Chains
pub mod Inner
