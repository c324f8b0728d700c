-- Which calls cite each file in the proof of their clauses. A file without a call serves the crates above.
pub mod Shown
pub mod Bared
pub mod Same
-- rows::levels_are_as_meant
pub mod Levels
pub mod Parts
