pub mod HeaderSafe
pub mod Reply
