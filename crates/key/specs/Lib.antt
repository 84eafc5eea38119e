pub mod Tally
pub mod Led
pub mod Keys
pub mod Replayed
