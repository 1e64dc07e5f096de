pub mod Sums
pub mod Visits
pub mod Blocks
pub mod Passes
