pub mod Relaxed
pub mod Measures
pub mod Layering
pub mod Built
pub mod Working
