-- What a reader must believe: what the reader of a whole expression answers.
pub mod Place
