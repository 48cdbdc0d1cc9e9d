pub mod Lawful
pub mod Fits
pub mod Spelled
