-- Which calls cite each file in the proof of their clauses. A file without a call serves the files that are cited.
-- bound::least_unfit, bound::bases_are_there
pub mod Fits
-- member::least_owner_of_missing
pub mod Members
-- system::system_types
pub mod Systems
-- needed::is_core_there
pub mod CoreThere
