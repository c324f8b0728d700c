-- Holding is an order.
pub mod Order
-- What slots and frames unite to.
pub mod United
-- One more type in a set.
pub mod Put
