use Rattle.std.proofs.Common.{◌≡◌, ◌+◌, take, drop, Ok, Err, ap, sym, arith}
use Rattle.std.proofs.lemmas.List.{take_rest}
use Rattle.cil_lone.specs.Row.{size_of}
use Rattle.cil_lone.specs.Cut.{lone_at}
use Rattle.cil_lone.proofs.Parts.{cut_step, cut_stop, cut_within}
use Rattle.cil_lone.proofs.standalone.cut.Goals as goal

pub returns-in-Err-clause-fault : goal.returns-in-Err-clause-fault
returns-in-Err-clause-fault c =
    let body = take (c.args.size + 1) c.args.bytes.now in
    let none : lone_at (drop c.loop-at.at body) ≡ Err c.in-Err.stop = sym (rw take_rest at c.in-Err.ensures) in
    rw c.stopped.ensures
    (cut_stop c.args.bytes.now c.args.size c.loop-at.code.items c.loop-at.at c.requires.whole c.loop-at.invariant.read (omega arith) c.in-Err.stop none)

pub loop-at-preserved : goal.loop-at-preserved
loop-at-preserved c =
    let body = take (c.args.size + 1) c.args.bytes.now in
    let read : lone_at (drop c.loop-at.at body) ≡ Ok c.in-Ok.simple = sym (rw take_rest at c.in-Ok.ensures) in
    let after : c.loop-at.at + c.size_of-at.result ≡ c.loop-at.at + size_of c.in-Ok.simple.op = ap (λ n. c.loop-at.at + n) c.size_of-at.ensures in
    record {
      read = rw c.in_ok-push-in-Ok.ensures.items
          (cut_step body c.loop-at.code.items c.loop-at.at (c.loop-at.at + c.size_of-at.result) c.in-Ok.simple c.loop-at.invariant.read read after);
      within = cut_within body c.loop-at.at (c.loop-at.at + c.size_of-at.result) c.in-Ok.simple (omega arith) read after;
    }
