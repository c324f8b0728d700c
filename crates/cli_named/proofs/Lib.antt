-- What a row names, that it is one list, and the numbers of tokens.
pub mod Named
pub mod Places
pub mod One
