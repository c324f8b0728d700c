-- Which calls cite each file in the proof of their clauses. A file without a call serves the files that are cited.
-- primaries::ranks_here, primaries::blocks_here
pub mod Pairs
