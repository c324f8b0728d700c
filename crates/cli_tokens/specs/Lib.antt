-- What a reader must believe: which tokens stand for nothing, and which is the first.
pub mod Faults
