pub mod Digests
pub mod Hashing
