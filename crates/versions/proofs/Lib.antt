pub mod Prefixes
pub mod Orders
pub mod Fronts
pub mod Turns
pub mod Operators
