-- Which calls cite each file in the proof of their clauses. A file without a call serves the files that are cited.
-- below::form_below, below::lead_below, below::block_below, below::block
pub mod Lower
