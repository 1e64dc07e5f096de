pub mod Places
pub mod Pieces
pub mod Turns
pub mod Runs
pub mod Sounds
pub mod Uses
