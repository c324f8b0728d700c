-- What a reader must believe: the least number of which a fact holds, keys that are shared, and where a key stands first.
pub mod Least
pub mod Shared
pub mod Firsts
