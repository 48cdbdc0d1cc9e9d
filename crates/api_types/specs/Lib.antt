pub mod Calendar
pub mod Routes
pub mod Stamps
