pub mod Signs
pub mod Definitions
pub mod Parts
pub mod Maps
pub mod Words
pub mod inner
