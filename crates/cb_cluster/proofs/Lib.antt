pub mod Orders
pub mod Nearest
pub mod Joins
pub mod Listed
pub mod Fewer
pub mod Linked
pub mod Unique
