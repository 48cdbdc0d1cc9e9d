pub mod Answers
pub mod Arguments
pub mod Complaints
pub mod Fields
pub mod Requests
pub mod Tokens
pub mod Values
