mod Commits
pub mod PortLaws
