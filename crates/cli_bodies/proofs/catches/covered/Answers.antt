use Rattle.std.proofs.Common.{◌+◌, ◌<◌, length, ap, arith}
use Rattle.cli_bodies.specs.Catches.{IsCovered}
use Rattle.cli_bodies.specs.Earlier.{IsLeastSoFar}
use Rattle.cli_bodies.proofs.Sooner.{kept, taken, some, none}
use Rattle.cli_bodies.proofs.Places.{one_cover, cover_within}
use Rattle.cli_bodies.proofs.catches.covered.Goals as goal
use Rattle.cli_bodies.proofs.catches.covered.Goals.{then-is_covered, else-is_covered}

pub loop-k-preserved : goal.loop-k-preserved
loop-k-preserved c =
    let s = c.args.method.now in
    elim c.if-is_covered.branch as (λ _. IsLeastSoFar (IsCovered s) (c.loop-k.k + 1) c.if-is_covered.least) [
      | then-is_covered w ↦
          let off = rw w.if-is_covered.true at c.is_covered.ensures.yes in
          rw (w.least-is, w.sooner-least.ensures) (taken (IsCovered s) c.loop-k.k _ c.loop-k.least off (λ m. one_cover s c.loop-k.k _ m off) c.loop-k.invariant)
      | else-is_covered w ↦
          rw w.least-is (kept (IsCovered s) c.loop-k.k c.loop-k.least (rw w.if-is_covered.false at c.is_covered.ensures.no) c.loop-k.invariant)
    ]

pub returns-clause-some : goal.returns-clause-some
returns-clause-some c =
    let s = c.args.method.now in
    some (IsCovered s) c.loop-k.k c.loop-k.least
    (λ k n off. let lt : k < length s.body.now.clauses = cover_within s k n off in omega (arith, ap length c.items-clause-items.ensures)) c.loop-k.invariant

pub returns-clause-none : goal.returns-clause-none
returns-clause-none c =
    let s = c.args.method.now in
    none (IsCovered s) c.loop-k.k c.loop-k.least
    (λ k n off. let lt : k < length s.body.now.clauses = cover_within s k n off in omega (arith, ap length c.items-clause-items.ensures)) c.loop-k.invariant
