-- Which calls cite each file in the proof of their clauses.
-- laws::stretches_one_behind_the_other
mod Stretches
-- column::ListColumn::list, column::ListColumn::owner
mod Columns
-- lists::Lists::of
mod Wrong
-- laws::one_first_fault
mod Least
