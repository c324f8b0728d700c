-- Which calls cite each file in the proof of their clauses. A file without a call serves the files that are cited.
pub mod Options
-- cli::cli_of, image::Image::at, image::Image::of, image::Image::rest, index::ImageIndex::at, index::ImageIndex::rest
pub mod Ranges
-- cli::cli_of, image::Image::at, image::Image::of, image::Image::rest, index::ImageIndex::new,
-- sections::Table::first_holding, sections::Table::sections, sections::table_of
pub mod Tables
-- index::ImageIndex::candidates
pub mod Find
-- blocks::blocks, blocks::greatest_end, blocks::reaches, blocks::running
pub mod Reaches
-- cli::cli_of, headers::headers_of
pub mod Unique
-- laws::one_reading, laws::ranges_are_within
pub mod Faults
