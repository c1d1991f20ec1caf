pub mod Sets
pub mod Shades
pub mod Strings
pub mod Joins
pub mod Puts
pub mod inner
