pub mod Sames
pub mod Views
