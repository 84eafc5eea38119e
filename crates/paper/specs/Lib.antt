pub mod Paper
pub mod Meaning
pub mod Papers
pub mod Sayings
