-- catches::other_class, catches::covered, unboxes::unread
mod Sooner
mod Places
-- check::check_body
mod First
