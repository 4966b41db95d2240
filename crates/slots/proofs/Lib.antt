pub mod Sets
pub mod Members
mod Words
mod WordSets
