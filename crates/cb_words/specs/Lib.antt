pub mod Faults
pub mod OptionNames
pub mod Parts
pub mod Values
pub mod Specialise
pub mod Commands
pub mod Says
pub mod inner
