use Rattle.std.proofs.Common.{◌≡◌, take, map}
use Rattle.std.specs.Prelude.{All}
use Rattle.cil_body.specs.Code.{IsAimed, instr_of}
use Rattle.cil_body.proofs.code.aimed.Given as goal

abbrev pub invariant-loop-at : goal.invariant-loop-at
invariant-loop-at l =
    record {
      aimed : All (IsAimed l.code l.starts) (take l.at-index l.placed);
      instrs : l.instrs.items ≡ map (instr_of l.code) (take l.at-index l.placed);
    }
