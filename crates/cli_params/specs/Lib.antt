-- What a reader must believe: which rows of Param are a method's, and the names of its parameters.
pub mod Params
-- Inner facts: what is written down row by row.
pub mod Put
