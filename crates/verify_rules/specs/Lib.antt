-- What a reader must believe: the rules of verification.
-- What tokens name, what places hold, and tests of slots.
pub mod Look
pub mod Held
pub mod Slots
-- What each rule asks.
pub mod Puts
pub mod Kinds
pub mod Members
pub mod Gap
pub mod Results
pub mod Rules
