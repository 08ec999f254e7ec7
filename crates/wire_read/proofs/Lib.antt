pub mod Counts
pub mod Fronts
