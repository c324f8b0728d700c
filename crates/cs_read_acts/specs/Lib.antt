-- A part of a production that functions of this crate read. A reader of its public clauses doesn't need it.
pub mod Acts
