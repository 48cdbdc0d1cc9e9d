pub mod Numerals
pub mod Prefixes
