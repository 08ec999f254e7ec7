pub mod Collars
pub mod Updates
pub mod Pricings
