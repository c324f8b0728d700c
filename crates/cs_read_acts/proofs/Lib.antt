-- Which calls cite each file in the proof of their clauses. A file without a call serves the files that are cited.
-- actions::plain_name
pub mod Names
-- actions::call_to, actions::place_to, actions::primary_act, actions::postfix_act, paths::path_act
pub mod Binds
