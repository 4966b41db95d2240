pub mod Views
pub mod Checks
