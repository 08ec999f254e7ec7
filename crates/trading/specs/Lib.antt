pub mod Journals
pub mod Desks
pub mod Doing
pub mod Pits
pub mod Rests
pub mod Floors
