-- What private clauses alone cite.
pub mod Ranks
pub mod Rows
pub mod Tests
