pub mod Chunks
pub mod Carries
pub mod LaidOut
pub mod Formatted
pub mod EachRecord
pub mod Zeros
