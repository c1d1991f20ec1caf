pub mod Memory
pub mod Outside
pub mod Standard
pub mod Tables
pub mod Trees
pub mod inner
