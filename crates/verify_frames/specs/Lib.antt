-- Inner facts: of some slots one is so, or none.
pub mod Among
