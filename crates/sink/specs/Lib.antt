pub mod Counts
pub mod Stores
