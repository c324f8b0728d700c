pub mod Handed
pub mod Pushed
pub mod Constants
