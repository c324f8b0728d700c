-- The laws of this crate, for the proofs of the crates above.
use Rattle.cil_body.specs.Laws.{HasOneBody, BodyHasNoFault, BodyHasOneFault, BodyHasRanges}
use Rattle.cil_body.proofs.OneBody.{one_body, no_fault, one_fault}
use Rattle.cil_body.proofs.Ranges.{ranges_of}

pub has_one_body : HasOneBody
has_one_body = one_body

pub body_has_no_fault : BodyHasNoFault
body_has_no_fault = no_fault

pub body_has_one_fault : BodyHasOneFault
body_has_one_fault = one_fault

pub body_has_ranges : BodyHasRanges
body_has_ranges = ranges_of
