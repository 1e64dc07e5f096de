pub mod Told
pub mod Kinds
pub mod Operators
pub mod Orders
pub mod Total
