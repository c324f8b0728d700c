-- Which calls cite each file in the proof of their clauses. A file without a call serves the files that are cited, and the crates above.
pub mod Spelling
pub mod NameKinds
-- laws::types_are_read_back, laws::params_are_read_back
pub mod Types
