-- What a reader must believe: that each member's slot is told.
pub mod Slots
-- Inner facts: a table of slots that is under way, what is computed of the rows, and where a walk stands.
pub mod Told
pub mod Known
pub mod At
