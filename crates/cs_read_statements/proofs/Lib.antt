-- Which calls cite each file in the proof of their clauses. A file without a call serves the files that are cited.
-- blocks::statements
pub mod Faults
