pub mod Marks
pub mod Lexes
pub mod Pieces
pub mod Inner
