-- What a reader must believe: that the parts are all that is put.
pub mod Law
-- Inner facts: what is asked of a slot that goes to a place.
pub mod Fits
