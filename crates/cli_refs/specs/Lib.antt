-- What a reader must believe: what references to members say, and which members they mean.
pub mod Sought
-- Inner facts: keys of members and of references, and numbers that they have in common.
pub mod Keys
pub mod Signs
-- Inner facts: the first member of each sign in each type.
pub mod Picks
-- Inner facts: references by the types that they name.
pub mod Asked
-- Inner facts: what is computed of the rows once, the members that stand open, and where a walk stands.
pub mod Known
pub mod At
