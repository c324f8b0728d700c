-- What a reader must believe: what a flow of facts over instructions is, and a map of it.
pub mod Flow
