pub mod Slot
pub mod Record
pub mod Journal
