-- Sets and frames that name each type once: set::put, meet::join, meet::joined_slot.
pub mod Kept
