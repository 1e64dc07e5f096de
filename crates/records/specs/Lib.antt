pub mod Contents
pub mod Measuring
pub mod Recording
pub mod Writers
