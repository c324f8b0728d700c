-- Which calls cite each file in the proof of their clauses.
-- number::one_number_begins
pub mod Spelling
