-- What a reader must believe: what the types and members of the assembly itself name.
pub mod Own
