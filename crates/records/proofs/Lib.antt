pub mod Quads
pub mod Verdicts
pub mod Parts
pub mod Members
pub mod Along
