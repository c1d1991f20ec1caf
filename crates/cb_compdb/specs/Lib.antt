pub mod Pieces
pub mod Databases
pub mod Faults
pub mod Options
pub mod Commands
pub mod inner
