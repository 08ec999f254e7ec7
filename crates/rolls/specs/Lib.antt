pub mod Slots
pub mod Rolls
