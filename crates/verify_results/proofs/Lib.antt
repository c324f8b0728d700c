-- The slots that are given and those that are left: result::leaves, result::given_slots, result::is_among.
pub mod Left
