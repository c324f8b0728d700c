-- Which calls cite each file in the proof of their clauses. A file without a call serves the files that are cited.
pub mod First
pub mod SameLists
-- laws::parts_keep_one_answer
pub mod Single
pub mod Chain
-- laws::parts_keep_an_answer
pub mod Exact
-- laws::first_fault_in_order
pub mod Order
-- condition::broken_rule, condition::first_broken, key::least_repeated_key
pub mod Rows
