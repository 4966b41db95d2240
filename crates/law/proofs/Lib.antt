pub mod Lists
pub mod Reorder
pub mod Stamps
pub mod Runs
pub mod Places
