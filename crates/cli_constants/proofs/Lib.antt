pub mod Units
pub mod Counted
