pub mod Tests
pub mod Layers
pub mod Rulings
pub mod Laws
pub mod Trials
