-- Which calls cite each file in the proof of their clauses. A file without a call serves the files that are cited, and the crates above.
pub mod Opening
pub mod Leading
pub mod Reading
pub mod Primaries
pub mod Operators
pub mod Casts
pub mod Lambdas
pub mod Forms
-- laws::expressions_are_read_back
pub mod Whole
