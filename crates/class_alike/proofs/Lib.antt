-- Which calls cite each file in the proof of their clauses.
-- alike::are_one_list
pub mod Params
-- named::marked, named::marks_of
pub mod Marks
