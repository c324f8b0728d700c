-- What a reader must believe: how signatures are spelled, and what is wrong with a blob that is none.
pub mod Element
pub mod Grammar
pub mod Fault
pub mod Laws
-- Inner facts: what a part of a blob answers.
pub mod Reading
