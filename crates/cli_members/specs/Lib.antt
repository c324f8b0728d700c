-- What a reader must believe: which rows are members, which member a token means, and which methods are accessors. Put has inner
-- facts.
pub mod Members
pub mod Roles
pub mod Put
