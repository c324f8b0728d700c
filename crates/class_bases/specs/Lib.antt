-- What a reader must believe: what is asked of one row, and types of System by their names.
pub mod Fit
pub mod System
