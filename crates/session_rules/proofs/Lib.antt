pub mod Arguments
pub mod Blocks
mod Choices
pub mod Turns
pub mod Uploads
