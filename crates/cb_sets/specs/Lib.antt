pub mod Sets
pub mod Tallies
pub mod inner
