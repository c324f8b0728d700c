-- What a reader must believe: which constants a type takes, and which fields fail. Marks has inner facts.
pub mod Takes
pub mod Fails
pub mod Marks
