pub mod Rows
pub mod Ascii
pub mod Points
