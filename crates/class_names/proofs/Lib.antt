-- Which calls cite each file in the proof of their clauses. A file without a call serves the files that are cited.
pub mod Bytes
pub mod OneName
pub mod OneOf
-- full::full_name
pub mod Walk
-- space::prefixes
pub mod Prefix
-- space::namespaces
pub mod Spaces
-- unique::least_named_alike, unique::least_twice
pub mod Alike
