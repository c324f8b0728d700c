-- Which calls cite each file in the proof of their clauses. A file without a call serves the files that are cited.
pub mod Table
-- laws::left_out_is_the_standards
pub mod Refused
-- instruction::first, instruction::with_code
pub mod InstructionFacts
pub mod Causes
-- laws::one_instruction, laws::table_is_the_standards
pub mod Consequences
