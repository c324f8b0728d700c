-- What a reader must believe: which members go by a name.
pub mod Index
-- Inner facts: the order in which the numbers stand.
pub mod Order
