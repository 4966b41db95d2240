mod Owings
pub mod Rooms
