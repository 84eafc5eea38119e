pub mod Good
pub mod Clear
pub mod Apart
pub mod Pushes
pub mod Readings
pub mod Lawfuls
pub mod Sayings
