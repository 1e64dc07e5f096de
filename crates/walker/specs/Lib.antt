pub mod Records
pub mod Views
pub mod Forms
pub mod Lines
pub mod Walks
