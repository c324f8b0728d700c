-- Which calls cite each file in the proof of their clauses.
-- all that write
pub mod Following
-- reading::laid_is_written
pub mod Written
