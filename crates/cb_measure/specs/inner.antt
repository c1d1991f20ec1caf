-- What private clauses alone cite.
pub mod Records
pub mod Numbers
pub mod Finding
pub mod Timing
