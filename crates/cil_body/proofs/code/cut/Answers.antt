use Rattle.std.proofs.Common.{◌+◌, refl, sym, arith}
use Rattle.std.proofs.lemmas.List.{length-drop}
use Rattle.cil_body.proofs.CodeFacts.{Reads-more, tail_is}
use Rattle.cil_body.proofs.code.cut.Goals as goal

pub loop-at-preserved : goal.loop-at-preserved
loop-at-preserved c =
    let tail = tail_is c.loop-at.at c.args.code.now in
    let read = rw tail at c.in-Ok.ensures.read in
    let within = rw tail at c.in-Ok.ensures.within in
    let long = length-drop c.loop-at.at c.args.code.now in
    record {
      read = rw c.in_ok-push-in-Ok.ensures.items (Reads-more c.args.code.now c.loop-at.placed.items c.loop-at.at (c.loop-at.at + c.in-Ok.found.size) c.in-Ok.found c.loop-at.invariant.read (sym read) refl);
      within = omega arith;
    }
