pub mod Appending
pub mod Cuts
pub mod Decimal
pub mod Options
pub mod Grammar
pub mod Spelling
