-- The parts of what is put: law::parts_are_all.
pub mod Parts
