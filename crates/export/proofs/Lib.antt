pub mod Exporting
pub mod Packaging
pub mod Detailing
