-- What a reader must believe: what a written type means, and the rows of types.
pub mod Named
pub mod Forms
pub mod TypeRows
-- Inner facts: types by their names.
pub mod Numbered
