pub mod Measures
pub mod Lists
pub mod Fieldings
pub mod Meanings
pub mod Example
