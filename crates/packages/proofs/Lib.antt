pub mod Fields
pub mod Cutting
pub mod Entering
pub mod Records
pub mod Finding
pub mod Fitted
pub mod Telling
