pub mod Pipe
pub mod Status
pub mod Words
