pub mod Standing
pub mod Joining
pub mod Rows
