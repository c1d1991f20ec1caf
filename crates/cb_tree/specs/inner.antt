-- What private clauses alone cite.
pub mod Heads
pub mod Reads
pub mod Trees
pub mod Frames
