pub mod Stepping
pub mod OneText
pub mod ReadsBack
pub mod Cuts
