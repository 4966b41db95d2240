pub mod Places
pub mod Filtered
