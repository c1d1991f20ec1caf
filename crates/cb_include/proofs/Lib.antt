mod Added
mod Agreeing
mod Angled
mod Chained
mod Decided
