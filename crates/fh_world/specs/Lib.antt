pub mod Causes
pub mod Disk
pub mod Bytes
pub mod Replay
pub mod Memory
pub mod Seconds
pub mod Adapters
