-- Which calls cite each file in the proof of their clauses. A file without a call serves the files that are cited.
pub mod Basics
pub mod Signs
pub mod Names
pub mod Numerals
pub mod Quotes
-- names, numbers, quotes
pub mod Ascii
-- reading::written_is_read
pub mod Apart
