pub mod Sheet
pub mod Meaning
pub mod Sheets
pub mod Sayings
