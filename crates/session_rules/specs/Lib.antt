pub mod Asked
pub mod Connection
pub mod Decisions
pub mod Judged
pub mod Replies
