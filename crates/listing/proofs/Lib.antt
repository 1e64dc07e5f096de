pub mod LineLengths
pub mod Needs
pub mod Answers
pub mod Accepted
pub mod Outcome
