-- Nodes and regions: region::has_region, region::has_node.
pub mod Nodes
-- Rows of instructions: jump::falls_off, jump::leads_wrongly.
pub mod There
-- The innermost region: jump::ends_no_finally.
pub mod Innermost
-- Rows that don't leave regions: jump::jumps_wrongly.
pub mod Jumps
-- Which instructions are aimed at: aim::aimed.
pub mod Marks
-- What is said of one instruction: spot::spot, spot::spots_among.
pub mod Standing
