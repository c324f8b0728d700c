use Rattle.std.proofs.Common.{◌≡◌, ◌∙◌, ◌+◌, ℕ, Some, None, sym, subst, refl, inl, inr, arith}
use Rattle.cli_heads.specs.Head.{begun, closed}
use Rattle.cli_heads.specs.Fault.{stop}
use Rattle.cli_heads.proofs.Begins.{bad_offset}
use Rattle.cli_heads.proofs.read.read_head.Goals as goal

pub returns-in_default-2-clause-fault : goal.returns-in_default-2-clause-fault
returns-in_default-2-clause-fault c =
    let s = c.args.maker.now in
    let none : begun s (c.loop-k.k + 1) ≡ None = sym c.in_ok-more.ensures ∙ c.in_default-2.is in
    stop c.in-Some.end c.loop-k.k c.in-Some.callee c.loop-k.begun c.in-Some.ensures.some
    (record { begins = c.loop-k.invariant; stops = inl (c.loop-k-test.true, none) })
    (bad_offset s c.in-Some.callee _ _ _ c.loop-k.k _ c.is_same-same.ensures c.items.ensures c.bad_at-bad.ensures)

pub returns-in-None-clause-fault : goal.returns-in-None-clause-fault
returns-in-None-clause-fault c =
    let s = c.args.maker.now in
    let none : closed s c.in-Some.end c.in-Some.callee ≡ None = sym c.in_ok-head.ensures ∙ c.in-None.is in
    let same : c.loop-k.k ≡ c.in-Some.end = omega (arith, c.loop-k-test.false, c.loop-k.auto.k-end) in
    let P : ℕ → Type 0 = λ n. begun s n ≡ Some c.loop-k.begun in
    stop c.in-Some.end c.in-Some.end c.in-Some.callee c.loop-k.begun c.in-Some.ensures.some
    (record { begins = subst P same c.loop-k.invariant; stops = inr (refl, none) })
    (bad_offset s c.in-Some.callee _ _ _ c.in-Some.end _ c.is_same-same.ensures c.items-2.ensures c.bad_at-bad-2.ensures)
