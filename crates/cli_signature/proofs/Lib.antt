-- Which calls cite each file in the proof of their clauses. A file without a call serves the files that are cited.
pub mod Words
pub mod Trees
-- ty::ty, ty::unmarked
pub mod Marks
-- number::number, number::number_stop
pub mod Stopping
-- laws::one_reading, signature::counted, signature::field_sig, signature::lead
pub mod Blobs
-- laws::one_reading
pub mod OneFault
