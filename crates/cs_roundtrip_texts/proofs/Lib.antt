-- Which calls cite each file in the proof of their clauses. A file without a call serves the files that are cited.
pub mod Spelled
pub mod Lines
pub mod Noted
pub mod Heads
pub mod Members
pub mod Units
-- laws
pub mod Whole
