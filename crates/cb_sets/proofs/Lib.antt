pub mod Bits
pub mod Held
pub mod Listed
pub mod Marked
pub mod Orders
pub mod Placed
pub mod Tallied
pub mod Users
