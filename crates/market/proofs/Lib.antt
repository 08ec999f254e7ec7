pub mod Blanks
pub mod Quotas
pub mod Answered
pub mod Ordered
pub mod Quoted
pub mod Hints
