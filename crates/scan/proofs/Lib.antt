pub mod Table
pub mod Classes
pub mod Lists
pub mod Stores
pub mod Littles
pub mod Orders
pub mod Compares
pub mod Bits
