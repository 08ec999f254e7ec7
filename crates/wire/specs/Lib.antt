pub mod Splitting
pub mod Feeding
