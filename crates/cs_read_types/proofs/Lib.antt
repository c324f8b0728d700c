-- Which calls cite each file in the proof of their clauses. A file without a call serves the files that are cited.
-- words::keyword_named, leaves::simple
pub mod Ones
-- types::ranks, types::more_params
pub mod Looping
