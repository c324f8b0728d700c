-- Which calls cite each file in the proof of their clauses. A file without a call serves the files that are cited.
pub mod Cut
pub mod Walk
-- standalone::balance
pub mod Break
pub mod Operands
-- standalone::first_lone
pub mod Fields
pub mod SameCut
-- standalone::lone
pub mod Reading
-- standalone::cut, standalone::lone
pub mod Parts
pub mod Above
-- laws::balance_is_a_walk, laws::code_fills_the_file, laws::one_cut, laws::one_reading
pub mod Consequences
