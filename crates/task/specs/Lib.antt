pub mod Task
pub mod Paths
pub mod Facts
pub mod Limits
pub mod Single
pub mod Next
