pub mod Making
pub mod Text
pub mod Reading
pub mod Borrowed
