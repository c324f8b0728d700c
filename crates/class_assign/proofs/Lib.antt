-- Which calls cite each file in the proof of their clauses.
-- supers::is_super
pub mod Up
-- arrays::goes, arrays::goes_brackets, arrays::goes_core, arrays::goes_class
pub mod Ways
-- supers::supers_of, supers::object_of, supers::array_of
pub mod System
