use Rattle.std.proofs.Common.{◌≡◌, ◌+◌, min, length, sym, subst, arith}
use Rattle.std.specs.Option.{MatchOption}
use Rattle.cil_regions.specs.Laid.{IsLeastDisagreement}
use Rattle.cil_regions.proofs.Loose.{agreeing, disagreeing, no_clause}
use Rattle.cil_regions.proofs.nesting.disagreeing.Goals as goal
use Rattle.cil_regions.proofs.nesting.disagreeing.Goals.{then-tries-firsts, else-tries-firsts}

pub loop-i-preserved : goal.loop-i-preserved
loop-i-preserved c =
    let clauses = c.args.clauses.now in
    let firsts = c.args.firsts.now in
    let tries = c.args.tries.now in
    let handlers = c.args.handlers.now in
    elim c.if-tries-firsts.branch [
      | then-tries-firsts w ↦
          subst (IsLeastDisagreement clauses firsts tries handlers (c.loop-i.i + 1)) (sym w.least-is)
          (disagreeing clauses firsts tries handlers c.loop-i.i no_clause c.loop-i-test.true c.loop-i.least w.lesser.result w.if-tries-firsts.true c.loop-i.invariant
          (subst (λ m. MatchOption c.loop-i.least (w.lesser.result ≡ m) (λ old. w.lesser.result ≡ min old m)) w.min.ensures w.lesser.ensures))
      | else-tries-firsts w ↦
          subst (IsLeastDisagreement clauses firsts tries handlers (c.loop-i.i + 1)) (sym w.least-is)
          (agreeing clauses firsts tries handlers c.loop-i.i no_clause c.loop-i-test.true c.loop-i.least w.if-tries-firsts.false c.loop-i.invariant)
    ]

pub returns : goal.returns
returns c =
    let all : c.loop-i.i ≡ length c.args.clauses.now = omega arith in
    subst (λ n. IsLeastDisagreement c.args.clauses.now c.args.firsts.now c.args.tries.now c.args.handlers.now n c.loop-i.least) all c.loop-i.invariant
