pub mod Book
pub mod Worked
pub mod Broken
