pub mod Classes
pub mod Stores
pub mod ByteOrder
pub mod Bits
