-- What a reader must believe: that owners are there, and what is asked of one member.
pub mod Owners
pub mod Known
pub mod Twins
pub mod Groups
pub mod Nested
pub mod Fieldless
-- Inner facts: what the code goes by.
pub mod Signs
pub mod Names
