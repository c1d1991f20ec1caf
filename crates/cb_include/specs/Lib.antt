pub mod Candidates
pub mod Seen
pub mod inner
