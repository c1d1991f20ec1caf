-- What private clauses alone cite.
pub mod Fronts
pub mod Left
