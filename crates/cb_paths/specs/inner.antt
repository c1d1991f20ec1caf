-- What private clauses alone cite.
pub mod Texts
pub mod Trails
