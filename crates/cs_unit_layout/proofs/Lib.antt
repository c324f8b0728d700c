-- Which calls cite each file in the proof of their clauses.
-- headwords::text
pub mod Words
