-- Which calls cite each file in the proof of their clauses.
-- front::read_front, dir_shelf::front_of, dir_shelf::DirShelf::take
pub mod Reading
-- out_sink::write_front
pub mod Writing
