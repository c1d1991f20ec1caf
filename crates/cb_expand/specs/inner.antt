-- What private clauses alone cite.
pub mod Machine
pub mod Rows
pub mod Works
pub mod Gathers
pub mod Readings
pub mod Lefts
pub mod Sources
pub mod Fronts
