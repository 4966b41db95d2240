pub mod Rules
pub mod Addresses
pub mod FieldTexts
pub mod Fields
pub mod RoundTrip
