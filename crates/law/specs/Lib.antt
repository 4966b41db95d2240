pub mod Operations
pub mod Changes
pub mod Orders
pub mod Accounts
pub mod Law
