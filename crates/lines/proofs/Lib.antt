pub mod Tokens
pub mod Starts
pub mod Pools
pub mod Roles
pub mod Parts
pub mod Turns
