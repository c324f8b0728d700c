-- Which calls cite each file in the proof of their clauses.
pub mod Increasing
-- rest::first_found, rest::first_that_stands, found::found_in
pub mod Those
-- found::lookup
pub mod Looked
-- law::one_lookup
pub mod One
