-- Which calls cite each file in the proof of their clauses. A file without a call serves the files that are cited.
pub mod Write
-- pair::same_types
pub mod Alike
-- nested::nested_names
pub mod Inner
-- fieldless::mark_chain
pub mod Chain
-- fieldless::fieldless_types
pub mod Roots
-- odd::first_named, odd::least_of_firsts
pub mod Odds
-- sign::least_twin
pub mod Equal
pub mod SignTold
-- unique::least_duplicate
pub mod Duplicates
