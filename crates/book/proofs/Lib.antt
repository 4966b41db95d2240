mod Commits
pub mod Reaching
