-- What a reader must believe: how declarations are printed.
pub mod Heads
pub mod Members
pub mod Units
