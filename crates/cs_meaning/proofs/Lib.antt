-- Which calls cite each file in the proof of their clauses. A file without a call serves the files that are cited.
pub mod Equations
pub mod Fuel
pub mod Runs
-- laws::expressions_give, laws::one_result, laws::statements_run
pub mod Consequences
-- run::lone_exec
pub mod Lone
pub mod Vars
pub mod Flat
-- run::exec
pub mod Blocks
