pub mod Grid
pub mod Names
pub mod Parts
pub mod Paths
pub mod Languages
pub mod inner
