-- Which calls cite each file in the proof of their clauses. A file without a call serves the files that are cited.
-- code::aimed, code::jump, code::jumps, code::start_at, code::targets
pub mod JumpFacts
-- code::aimed, code::cut, code::instr
pub mod CodeFacts
pub mod OneHeader
pub mod OneCode
pub mod OneChain
pub mod OneBody
pub mod Ranges
-- section::add_clauses, section::is_bound, section::raw_clauses
pub mod SectionFacts
-- body::decode
pub mod DecodeFacts
-- laws::body_has_ranges, laws::one_body
pub mod Consequences
