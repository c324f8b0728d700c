-- Which calls cite each file in the proof of their clauses. A file without a call serves the files that are cited.
pub mod Sounds
pub mod Texts
pub mod Words
pub mod Forms
pub mod Statements
-- laws
pub mod Whole
