pub mod Call
pub mod Stages
