-- Which calls cite each file in the proof of their clauses. A file without a call serves the files that are cited.
-- read::unit_of_text, read::reference_of_text
pub mod Reading
-- laws::one_text, laws::one_reference
pub mod OneText
