-- own::are_rising
mod Rising
-- members::has_slot_of_object
mod Slots
-- marks::marked, marks::marks_of
mod Marking
-- check::check_shapes
mod Order
