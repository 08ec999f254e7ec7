pub mod Views
pub mod Screens
pub mod Checks
pub mod Piles
pub mod Rules
