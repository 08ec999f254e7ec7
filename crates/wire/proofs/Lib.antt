pub mod Cutting
pub mod Fed
