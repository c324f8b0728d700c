-- found::Visited::visit
mod Visiting
-- found::reached
mod Closing
