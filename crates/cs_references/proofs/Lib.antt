-- Which calls cite each file in the proof of their clauses. A file without a call serves the files that are cited.
pub mod ExactMembers
pub mod DeeperMembers
-- laws::one_reference_text
pub mod DeeperDeclarations
