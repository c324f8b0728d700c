-- Parts of productions that functions of this crate read. A reader of its public clauses needs none of them.
pub mod Tails
