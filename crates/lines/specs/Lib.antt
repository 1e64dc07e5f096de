pub mod Line
pub mod Quotes
pub mod Rows
