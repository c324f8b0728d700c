-- Which calls cite each file in the proof of their clauses.
-- search::split_first, interfaces::first_interface
pub mod Left
-- search::in_interface, search::in_other
pub mod Searched
