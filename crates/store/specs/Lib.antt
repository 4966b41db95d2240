pub mod Entries
pub mod Table
pub mod Tables
pub mod Slots
