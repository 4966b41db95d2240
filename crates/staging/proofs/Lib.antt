pub mod Stagings
