-- What a reader must believe: a text's tokens.
pub mod Words
pub mod Tokens
pub mod Placed
pub mod Cuts
-- Inner facts, which only serve proofs.
pub mod Pieces
pub mod Found
