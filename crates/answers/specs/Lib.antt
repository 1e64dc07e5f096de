pub mod Tells
pub mod Refusals
