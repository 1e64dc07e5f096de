pub mod Lexemes
pub mod Marks
pub mod Keeps
pub mod Lefts
pub mod Fates
pub mod Writes
pub mod Fills
pub mod Outcomes
