-- Which calls cite each file in the proof of their clauses.
-- mem_shelf::read, mem_shelf::MemShelf::take
pub mod Files
