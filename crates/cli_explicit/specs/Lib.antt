-- What a reader must believe: which members the rows of MethodImpl name.
pub mod Explicit
