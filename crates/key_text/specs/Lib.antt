pub mod Cursors
pub mod Joined
pub mod Moves
