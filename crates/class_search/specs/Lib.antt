-- What a reader must believe: what a table of types has to fit.
pub mod Fit
-- Inner facts: what is still to be searched.
pub mod Left
