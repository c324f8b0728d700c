-- Inner facts: which members are told as nameless.
pub mod Named
