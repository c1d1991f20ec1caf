pub mod Grammar
pub mod Values
pub mod Words
pub mod Integers
pub mod Characters
pub mod Symbols
pub mod Faults
pub mod inner
