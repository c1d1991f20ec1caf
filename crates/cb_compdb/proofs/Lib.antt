pub mod Leading
pub mod SplitSteps
pub mod OneSplitting
pub mod Items
pub mod OneDatabase
pub mod Words
pub mod Filtering
