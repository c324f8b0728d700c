-- Which calls cite each file in the proof of their clauses. A file without a call serves the files that are cited.
-- root::find, root::headers_end
pub mod Headers
-- layout::are_tables, layout::counts_at, layout::tables_at, metadata::Metadata::row
pub mod Places
-- row::cells_of
pub mod Cells
-- metadata::Metadata::read
pub mod Whole
-- laws::tables_are_the_standards
pub mod Standard
-- laws::rows_are_whole
pub mod Ranges
pub mod Steps
pub mod Named
pub mod Heads
pub mod Inside
pub mod Bits
pub mod Counts
pub mod Rows
pub mod Stands
pub mod Fields
pub mod Missing
pub mod Passing
pub mod Prefixes
pub mod Cuts
pub mod Fails
-- laws::one_reading, metadata::Metadata::of
pub mod Readings
