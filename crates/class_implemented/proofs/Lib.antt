-- Which calls cite each file in the proof of their clauses.
-- explicit::by_type, explicit::with_pair
pub mod ByType
-- known::implicit_of
pub mod Flags
-- marked::with_marks
pub mod Marking
-- standing::none_standing, standing::entered, standing::left
pub mod Stand
-- chain::is_done
pub mod Done
-- chain::open_in, chain::open_among, chain::open_from, missing::missing_in_class
pub mod Least
-- chain::open_from
pub mod Interfaces
-- chain::open_one, chain::open_in, chain::open_among, chain::open_from
pub mod Open
-- walked::with_clean, passed::with_one
pub mod Marks
-- passed::is_passed, passed::passed_by
pub mod Passing
-- missing::missing_in_class
pub mod Up
-- walked::least_of_each, walked::stepped, walked::with_type, walked::without_type
pub mod Steps
