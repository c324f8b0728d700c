-- Rows of MethodSemantics, written down from the last to the first.
pub mod Written
