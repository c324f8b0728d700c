-- Of some slots one is so, or none: border::has_fleeting, border::has_code, border::keeps_border.
pub mod Among
