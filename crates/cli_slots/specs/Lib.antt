-- What a reader must believe: what members of the assembly itself do with slots.
pub mod Settled
-- Inner facts: what is computed of the rows once, what is told of members, and where a walk stands.
pub mod Known
pub mod Told
pub mod At
