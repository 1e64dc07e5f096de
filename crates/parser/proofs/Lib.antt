pub mod Answering
pub mod Frames
pub mod Lines
pub mod Assigning
pub mod Giving
pub mod Lexed
