pub mod Heads
pub mod Items
pub mod Rules
pub mod Exactly
