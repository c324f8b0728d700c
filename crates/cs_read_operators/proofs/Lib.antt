-- Which calls cite each file in the proof of their clauses.
-- operators::behind_sum, operators::conditional
pub mod Behind
