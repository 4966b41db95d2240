pub mod Check
pub mod Layout
pub mod Memory
pub mod Memories
pub mod Rewritten
pub mod OneRecord
pub mod Right
pub mod Sealed
