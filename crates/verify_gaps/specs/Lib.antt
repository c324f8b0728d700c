-- Inner facts: what has to hold of the slots that are used, and of the others.
pub mod Parts
