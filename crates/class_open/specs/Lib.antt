-- What a reader must believe: the members of an open path, and the innermost one of them.
pub mod Trail
-- Inner facts: numbers that members alike have in common, and stacks by these numbers.
pub mod Signs
pub mod Stacks
