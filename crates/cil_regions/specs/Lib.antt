-- What a reader must believe: the regions of a body, and what is wrong with them.
pub mod Region
pub mod Laws
-- Inner facts: what the code goes by.
pub mod Laid
pub mod Outlasting
pub mod Caught
pub mod Tries
