pub mod Marking
pub mod Filling
