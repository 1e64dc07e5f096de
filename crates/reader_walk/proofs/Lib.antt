pub mod Tells
pub mod Holding
pub mod Taking
