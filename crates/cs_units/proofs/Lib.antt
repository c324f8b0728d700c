-- Which calls cite each file in the proof of their clauses. A file without a call serves the files that are cited.
pub mod Rounding
pub mod Modifiers
pub mod ExactMembers
pub mod ExactDeclarations
pub mod DeeperMembers
-- laws::one_member, laws::one_unit
pub mod DeeperDeclarations
