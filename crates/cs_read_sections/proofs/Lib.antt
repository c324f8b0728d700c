-- Which calls cite each file in the proof of their clauses. A file without a call serves the files that are cited.
-- switches::case_label
pub mod Labels
