-- Which calls cite each file in the proof of their clauses.
-- parts::ordered, parts::first_parts, parts::last_parts, parts::known_of
pub mod Steps
-- buildable::are_type_rows, buildable::are_owned
pub mod Rows
