-- floats::floats_of
pub mod Marking
-- bad::has_one_fit
pub mod One
-- bad::is_value
pub mod Values
-- bad::first_bad_constant, bad::is_bad, bad::has_one_fit
pub mod FirstOff
