-- What a reader must believe: what a walk over the tree of bases is.
pub mod Walk
-- The ring of nodes that a walk is made from.
pub mod Ring
