-- Which calls cite each file in the proof of their clauses.
-- key::keys_of, key::member_keys
pub mod Keyed
-- sign::signs_of
pub mod OneSign
-- pick::picks_of, pick::places_of, pick::picked
pub mod FirstOf
-- asked::asked_of, asked::with_reference
pub mod ByType
-- walked::meant
pub mod Near
-- walked::answered, walked::with_one
pub mod Answering
-- walked::stepped, walked::entered, walked::left
pub mod Stand
-- meant::meant_on_walk
pub mod Whole
