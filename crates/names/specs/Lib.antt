pub mod Named
pub mod Store
