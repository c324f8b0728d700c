-- Which calls cite each file in the proof of their clauses. A file without a call serves the files that are cited.
-- leaves::pairs, leaves::blocks
pub mod Levels
-- primaries::simple_among
pub mod Names
