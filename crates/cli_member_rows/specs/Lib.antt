-- What a reader must believe: the types that signatures of members say, and the rows of fields and of methods.
pub mod Said
pub mod Fields
pub mod Methods
