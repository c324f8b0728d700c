-- What a reader must believe: the tokens of a whole text, and where none stands.
pub mod Lexed
-- Inner facts, which only serve proofs.
pub mod Places
pub mod Cursors
