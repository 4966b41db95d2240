pub mod Sets
pub mod State
pub mod Words
pub mod Checks
pub mod Effects
pub mod Calls
pub mod Histories
