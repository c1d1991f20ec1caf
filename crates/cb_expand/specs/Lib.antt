pub mod Arguments
pub mod Heads
pub mod Expansion
pub mod Untouched
pub mod inner
