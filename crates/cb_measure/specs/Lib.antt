pub mod Figures
pub mod Names
pub mod Header
pub mod Reading
pub mod Metrics
pub mod Cascade
pub mod inner
