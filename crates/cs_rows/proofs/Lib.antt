-- Which calls cite each file in the proof of their clauses. A file without a call serves the files that are cited.
-- rows::operators_are_as_meant, rows::casts_are_as_meant, rows::depths_are_as_meant, rows::blocks_are_as_meant
pub mod Worked
