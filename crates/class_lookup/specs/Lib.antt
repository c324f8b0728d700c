-- What a reader must believe: that a look-up gives one list.
pub mod Law
-- Inner facts: which members are left out, and what is still to be found.
pub mod Stand
pub mod Left
