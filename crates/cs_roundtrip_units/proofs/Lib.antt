-- Which calls cite each file in the proof of their clauses. A file without a call serves the files that are cited.
pub mod Decls
-- laws::texts_are_read_back
pub mod Whole
