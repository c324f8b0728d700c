-- What a reader must believe: that what is printed is read back.
pub mod Laws
pub mod Printed
