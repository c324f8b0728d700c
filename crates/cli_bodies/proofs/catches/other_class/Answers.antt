use Rattle.std.proofs.Common.{◌+◌, ◌<◌, length, ap, arith}
use Rattle.cli_bodies.specs.Catches.{IsOtherClass}
use Rattle.cli_bodies.specs.Earlier.{IsLeastSoFar}
use Rattle.cli_bodies.proofs.Sooner.{kept, taken, some, none}
use Rattle.cli_bodies.proofs.Places.{one_class, class_within}
use Rattle.cli_bodies.proofs.catches.other_class.Goals as goal
use Rattle.cli_bodies.proofs.catches.other_class.Goals.{then-is_other_class, else-is_other_class}

pub loop-k-preserved : goal.loop-k-preserved
loop-k-preserved c =
    let s = c.args.method.now in
    elim c.if-is_other_class.branch as (λ _. IsLeastSoFar (IsOtherClass s) (c.loop-k.k + 1) c.if-is_other_class.least) [
      | then-is_other_class w ↦
          let off = rw w.if-is_other_class.true at c.is_other_class.ensures.yes in
          rw (w.least-is, w.sooner-least.ensures) (taken (IsOtherClass s) c.loop-k.k _ c.loop-k.least off (λ m. one_class s c.loop-k.k _ m off) c.loop-k.invariant)
      | else-is_other_class w ↦
          rw w.least-is (kept (IsOtherClass s) c.loop-k.k c.loop-k.least (rw w.if-is_other_class.false at c.is_other_class.ensures.no) c.loop-k.invariant)
    ]

pub returns-clause-some : goal.returns-clause-some
returns-clause-some c =
    let s = c.args.method.now in
    some (IsOtherClass s) c.loop-k.k c.loop-k.least
    (λ k n off. let lt : k < length s.body.now.clauses = class_within s k n off in omega (arith, ap length c.items-clause-items.ensures)) c.loop-k.invariant

pub returns-clause-none : goal.returns-clause-none
returns-clause-none c =
    let s = c.args.method.now in
    none (IsOtherClass s) c.loop-k.k c.loop-k.least
    (λ k n off. let lt : k < length s.body.now.clauses = class_within s k n off in omega (arith, ap length c.items-clause-items.ensures)) c.loop-k.invariant
