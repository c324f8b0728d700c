-- Which calls cite each file in the proof of their clauses.
-- ring::ring_of
pub mod Put
-- walk::steps_of
pub mod Read
