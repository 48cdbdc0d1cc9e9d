pub mod Bodies
pub mod Commit
pub mod Files
pub mod Head
pub mod Open
pub mod Store
