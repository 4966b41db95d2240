pub mod Cutting
pub mod Left
pub mod Reading
pub mod Steps
