-- What private clauses alone cite.
pub mod Reading
pub mod Kept
pub mod Uses
