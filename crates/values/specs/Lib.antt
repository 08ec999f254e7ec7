pub mod Sides
pub mod Nbbos
pub mod References
pub mod Orders
pub mod Refusals
