pub mod Turning
pub mod Leading
pub mod Growing
