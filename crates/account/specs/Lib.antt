pub mod Accounts
pub mod Lines
