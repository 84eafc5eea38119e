pub mod Leading
pub mod Prefixes
