pub mod Answers
pub mod Ordered
pub mod Shows
