-- Which calls cite each file in the proof of their clauses. A file without a call serves the files that are cited.
pub mod FlatShape
pub mod FlatBody
-- meaning::code_can_be_flattened
pub mod CilRuns
pub mod Simulation
-- flat_form::flat
pub mod Returns
pub mod Names
pub mod Forms
pub mod Values
pub mod TreeMeans
pub mod HeadSound
pub mod Utf8Pieces
pub mod TextReads
-- flat_form::flattened
pub mod FlatCode
pub mod FlatLength
-- meaning::text_means_the_same
pub mod LoneMeaning
