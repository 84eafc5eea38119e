pub mod Table
pub mod Meaning
