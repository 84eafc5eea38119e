pub mod Records
pub mod Kinds
pub mod Faults
pub mod Lines
