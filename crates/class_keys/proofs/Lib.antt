-- Which calls cite each file in the proof of their clauses. A file without a call serves the files that are cited.
pub mod Items
pub mod Found
-- of the crates above: which number is the lesser
pub mod OfTwo
-- key::least_shared_key
pub mod Behind
-- firsts::first_indices
pub mod Noted
