pub mod Formats
pub mod Spelling
pub mod Fields
pub mod Texts
pub mod Lists
pub mod Given
pub mod Pieces
