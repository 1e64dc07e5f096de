pub mod Comparing
pub mod Places
pub mod Naming
pub mod Moves
pub mod Storing
pub mod Lookups
pub mod Fronts
