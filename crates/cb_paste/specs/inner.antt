-- What private clauses alone cite.
pub mod Nodes
pub mod Cells
pub mod Slots
pub mod Glued
pub mod Given
pub mod Uses
pub mod Plain
