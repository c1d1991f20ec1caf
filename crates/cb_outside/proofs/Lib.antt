pub mod Entries
pub mod Folders
pub mod Maps
pub mod Once
pub mod Prefixes
