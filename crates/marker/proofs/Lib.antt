pub mod Writes
pub mod Turns
pub mod Walks
pub mod Bonds
pub mod Reporting
