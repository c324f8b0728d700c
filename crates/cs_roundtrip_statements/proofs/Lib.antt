-- Which calls cite each file in the proof of their clauses. A file without a call serves the files that are cited.
pub mod Lines
pub mod Actions
pub mod Simple
pub mod Structured
pub mod Blocks
-- laws
pub mod Whole
