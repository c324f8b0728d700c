-- Which calls cite each file in the proof of their clauses. A file without a call serves the files that are cited.
-- laws::types_stand_behind_theirs
pub mod Outers
pub mod Owners
-- reading::declared, laws::texts_are_buildable
pub mod Buildable
pub mod OnePairing
-- laws::one_table
pub mod OneTable
-- reading::references
pub mod Steps
