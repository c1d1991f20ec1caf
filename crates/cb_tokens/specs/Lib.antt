pub mod Forms
pub mod Kinds
pub mod Cut
pub mod Logical
pub mod Plain
pub mod inner
