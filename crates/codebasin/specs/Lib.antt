pub mod Words
pub mod Specialise
pub mod Texts
pub mod Run
pub mod inner
