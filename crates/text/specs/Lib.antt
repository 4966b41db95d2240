pub mod Appending
pub mod Cutting
pub mod Numbers
pub mod Octets
pub mod Steps
