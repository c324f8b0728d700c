-- Which calls cite each file in the proof of their clauses. A file without a call serves the files that are cited.
pub mod Heads
pub mod Members
pub mod Methods
pub mod Explicit
-- laws::members_are_read_back
pub mod Whole
