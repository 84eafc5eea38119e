pub mod Fronts
pub mod Splitting
pub mod Values
pub mod Choosing
