pub mod FactSets
pub mod Position
pub mod Sittings
pub mod Achievers
pub mod Counted
