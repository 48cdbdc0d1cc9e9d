pub mod Committing
pub mod Images
pub mod Machine
pub mod TreeSides
