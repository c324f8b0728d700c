-- What a reader must believe: the values that bytes say, and which rows of Constant are a field's. Noted has inner facts.
pub mod Values
pub mod Owned
pub mod Noted
