-- What private clauses alone cite: how a condition is read from the left.
pub mod Attempts
pub mod Frames
pub mod Prefixes
pub mod Rests
