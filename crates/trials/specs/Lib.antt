pub mod Papers
pub mod Key
pub mod Trials
