pub mod Fits
pub mod Patterns
pub mod Tables
pub mod Faults
pub mod Analyses
pub mod inner
