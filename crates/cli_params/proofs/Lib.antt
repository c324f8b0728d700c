-- Rows of Param, written down from the first to the last, and names.
pub mod Written
