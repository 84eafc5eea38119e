pub mod Rules
pub mod Forms
pub mod Reading
pub mod Laws
