-- Which calls cite each file in the proof of their clauses. A file without a call serves the files that are cited.
-- pairs::pairs_of
pub mod KeyEqual
-- pairs::keys, pairs::pairs_of, pairs::row_keys
pub mod Keyed
-- text::rows_of
pub mod Whole
