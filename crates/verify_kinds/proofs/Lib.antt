-- Facts that are denied, and items one after another: compare::is_compared, array::all_accessed.
pub mod Items
