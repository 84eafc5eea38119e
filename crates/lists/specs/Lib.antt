pub mod Lists
pub mod Puts
pub mod View
