use Rattle.std.proofs.Common.{ℕ, ◌<◌, get_or}
use Rattle.std.specs.Prelude.{IfSome}
use Rattle.cil_instruction.specs.declared.instruction.Instr.{Instr}
use Rattle.cil_regions.specs.Laid.{IsFineBy}
use Rattle.cil_regions.specs.Caught.{IsStanding}
use Rattle.cil_regions.proofs.rethrow.first_uncaught.Given as goal

abbrev pub invariant-loop-place : goal.invariant-loop-place
invariant-loop-place l = record {
  fine : (k : ℕ) (d : ℕ × Instr) → k < l.place-index → IsFineBy l.nodes (get_or l.code k d);
  last : IfSome l.last (IsStanding l.nodes);
}
