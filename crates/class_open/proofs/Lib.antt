-- Which calls cite each file in the proof of their clauses.
-- sign::signs_of
pub mod Told
-- open::none_open, open::with_open, open::closed
pub mod Put
-- open::opened
pub mod Opening
-- open::closed
pub mod Closing
-- alike::innermost_alike
pub mod Hunt
-- of the crates above: what is open is what stands in the base chain
pub mod Path
