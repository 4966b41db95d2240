pub mod Order
pub mod Texts
pub mod Reading
pub mod Lacking
pub mod TextsLemmas
