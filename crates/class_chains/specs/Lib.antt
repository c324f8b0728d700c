-- What a reader must believe: chains that end.
pub mod Ends
-- Inner facts: what a walk keeps.
pub mod Walk
