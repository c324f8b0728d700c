-- Which calls cite each file in the proof of their clauses.
-- texts::margin
pub mod Margins
