pub mod Entries
pub mod Files
pub mod Fitting
pub mod Lists
pub mod Places
pub mod Splitting
