-- Which calls cite each file in the proof of their clauses.
-- walked::stepped, walked::entered, walked::left, slots::virts_on_walk
pub mod Stand
-- told::with_told_of
pub mod Under
-- slots::with_virts
pub mod Rows
-- slots::virts_on_walk: the member that is overridden, what is told on the walk, and the rows at its end
pub mod Near
pub mod Walk
pub mod Final
