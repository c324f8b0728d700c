-- Which calls cite each file in the proof of their clauses. A file without a call serves the files that are cited.
-- walk::ends_from
pub mod Marks
-- walk::above_first, walk::ends_from
pub mod Line
pub mod Transfer
