-- What is decided: rule::all_fit, order::behind.
pub mod Decided
-- Rules in their order: order::kept.
pub mod InOrder
