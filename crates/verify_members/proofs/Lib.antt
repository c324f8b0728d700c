-- One type as a set: delegate::is_assignable.
pub mod One
-- A member that may be named: access::is_open_from, access::is_named.
pub mod Open
-- Items one after another: access::is_reached_by_each.
pub mod Each
-- Parameters that are the same: delegate::is_same_param.
pub mod Params
