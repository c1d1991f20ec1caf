-- What private clauses alone cite.
pub mod Said
pub mod Memos
pub mod Trails
pub mod Moves
pub mod Readings
