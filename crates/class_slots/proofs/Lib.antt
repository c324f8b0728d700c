-- Which calls cite each file in the proof of their clauses.
-- overridden::overridden
pub mod Near
-- slots::slots_on_walk, walked::with_slots_of, walked::with_slot, walked::slot_of
pub mod Under
-- known::virtuals_of
pub mod Flags
-- walked::stepped, walked::entered, walked::left
pub mod Stand
