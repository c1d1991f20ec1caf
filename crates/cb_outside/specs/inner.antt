pub mod Listing
pub mod Maps
