pub mod Places
pub mod Parse
