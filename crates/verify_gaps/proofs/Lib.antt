-- Makers of addresses: maker::is_used_by, gap::has_none_unused, gap::has_none_pending.
pub mod Makers
-- That there is no gap, slot by slot: gap::has_no_gap.
pub mod Gaps
-- A method of a class that pushes its receiver: this::is_of_this.
pub mod InClass
-- What is asked of a use, but of a copy: gap::may_use.
pub mod Uses
