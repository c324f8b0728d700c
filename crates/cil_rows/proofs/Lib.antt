-- Which calls cite each file in the proof of their clauses. A file without a call serves the files that are cited.
-- code::numbers_are_places
mod Aims
-- code::numbers, code::numbers_are_places, code::rise, code::rows_of, code::searched, code::sought
mod Numbers
