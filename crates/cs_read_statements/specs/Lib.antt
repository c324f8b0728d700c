-- A part of a production that a function of this crate reads. A reader of its public clauses doesn't need it.
pub mod Tails
