-- A production at one level in two parts.
pub mod InTwo
