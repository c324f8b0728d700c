-- What a reader must believe: what the outside does.
pub mod MemShelf
pub mod MemSink
pub mod Outside
-- Inner facts: which calls fail by a list.
pub mod Script
