-- The laws of this crate, for the proofs of the crates above.
use Rattle.cil_lone.specs.Laws.{HasOneCode, HasNoFault, HasOneFault, CodeWalks, OperandsFit, CodeIsConsecutive, PlacesAreWithin, InstructionsHaveBytes, IsOfAllBodies, IsOfLoneBodies}
use Rattle.cil_lone.proofs.Cut.{size_of-positive}
use Rattle.cil_lone.proofs.Reading.{one_code, no_fault, one_fault, IsLone-consecutive}
use Rattle.cil_lone.proofs.SameCut.{stands_in_all, stands_in_lone}
use Rattle.cil_lone.proofs.Above.{IsLone-walks, IsLone-operand, IsLone-place}

pub has_one_code : HasOneCode
has_one_code = one_code

pub has_no_fault : HasNoFault
has_no_fault = no_fault

pub has_one_fault : HasOneFault
has_one_fault = one_fault

pub code_walks : CodeWalks
code_walks = IsLone-walks

pub operands_fit : OperandsFit
operands_fit = IsLone-operand

pub code_is_consecutive : CodeIsConsecutive
code_is_consecutive = IsLone-consecutive

pub places_are_within : PlacesAreWithin
places_are_within = IsLone-place

pub instructions_have_bytes : InstructionsHaveBytes
instructions_have_bytes = size_of-positive

pub of_all_bodies : IsOfAllBodies
of_all_bodies = stands_in_all

pub of_lone_bodies : IsOfLoneBodies
of_lone_bodies = stands_in_lone
