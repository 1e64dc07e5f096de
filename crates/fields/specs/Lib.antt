pub mod Numbers
pub mod Seen
