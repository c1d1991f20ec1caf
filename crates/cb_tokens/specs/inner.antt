-- What private clauses alone cite.
pub mod Classes
pub mod Scan
pub mod Breaks
pub mod Whole
pub mod LineCuts
