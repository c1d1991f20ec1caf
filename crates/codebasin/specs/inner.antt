-- What private clauses alone cite.
pub mod Answers
pub mod NumberLines
pub mod OneFile
pub mod Said
