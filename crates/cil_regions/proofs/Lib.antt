-- Which calls cite each file in the proof of their clauses. A file without a call serves the files that are cited.
pub mod OneRegions
pub mod OneTree
pub mod Inside
pub mod Order
pub mod Spans
-- span::spans
pub mod Begun
-- span::ordered
pub mod Ordered
-- nesting::parents, overlap::first_crossed, overlap::is_crossed, tree::nodes, tree::reaching_from,
-- tree::too_deep
pub mod Chain
pub mod Nested
pub mod Depth
-- overlap::first_crossed, overlap::is_crossed
pub mod Crossing
-- nesting::disagreeing, span::firsts
pub mod Loose
-- nesting::parents
pub mod ParentTable
-- span::firsts
pub mod FirstSharing
-- region::nested
pub mod Whole
-- nesting::loose
pub mod Partner
-- region::nested
pub mod Laminar
-- rethrow::begun, rethrow::innermost, rethrow::is_caught
pub mod Handling
-- rethrow::catching, rethrow::is_caught
pub mod Catching
-- tree::too_deep
pub mod Deep
-- region::regions
pub mod Caught
pub mod Depths
-- region::regions
pub mod Made
-- span::firsts
pub mod FirstTry
-- laws::one_region_tree
pub mod Consequences
