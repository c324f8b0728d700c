-- Which calls cite each file in the proof of their clauses.
-- spread::add_all, spread::follow, spread::gathered
pub mod Firsts
-- spread::gathered, spread::spread_of, among::is_among
pub mod Out
-- spread::spread_of, spread::fill, spread::spreads_of, among::is_among
pub mod Table
