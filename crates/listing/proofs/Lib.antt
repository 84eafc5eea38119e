pub mod Finds
pub mod Lining
