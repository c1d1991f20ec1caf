pub mod Growing
pub mod Runs
pub mod Cuts
pub mod Sets
pub mod Passing
