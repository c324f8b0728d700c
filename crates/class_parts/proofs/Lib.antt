-- Which calls cite each file in the proof of their clauses. A file without a call serves the files that are cited.
-- chain::bases_first, chain::outers_first
pub mod Ways
-- access::is_heir, access::is_open, up::derives, up::is_inside
pub mod Climb
-- access::is_heir, access::is_open
pub mod Heirs
