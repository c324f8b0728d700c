-- What a reader must believe: a body, and what is wrong with bytes that begin with none.
pub mod Header
pub mod Code
pub mod Section
pub mod Body
pub mod Range
pub mod Laws
-- Inner facts: numbers in bytes.
pub mod Number
