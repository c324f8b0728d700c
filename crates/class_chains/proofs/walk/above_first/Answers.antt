use Rattle.class_chains.specs.Ends.{Ends, IsWay}
use Rattle.std.specs.List.{slice_get}
use Rattle.std.proofs.Common.{subst, ◌≡◌, ◌<◌, ℕ, Some, length, inl, inr, arith}
use Rattle.std.proofs.lemmas.Bool.{cases_lt}
use Rattle.class_chains.proofs.Line.{past_ends, complete}
use Rattle.class_chains.proofs.walk.above_first.Goals as goal

pub returns-clause-order : goal.returns-clause-order
returns-clause-order c = complete _ _ _ c.loop-root.invariant.between (λ s lt. c.loop-root.invariant.below s (omega arith))

pub returns-clause-all_end : goal.returns-clause-all_end
returns-clause-all_end c = λ t. elim (cases_lt t (length c.args.ways.now)) [
  | inl lt ↦ (c.loop-root.invariant.below t (omega arith)).0
  | inr past ↦ past_ends _ t past
]

pub loop-root-preserved : goal.loop-root-preserved
loop-root-preserved c =
    let e = rw c.if-not-branch.false at c.in_ok-root_ends.ensures in
    record {
      between = e.0;
      below = λ s lt. elim (cases_lt s c.loop-root.root) [
        | inl before ↦ let old = c.loop-root.invariant.below s before in (old.0, (old.1.0, e.3 s old.1.0 old.1.1))
        | inr past ↦
            let same : c.loop-root.root ≡ s = omega arith in
            subst (λ (t : ℕ). Ends (IsWay c.args.ways.now) t × ((k : ℕ) × (slice_get c.root_ends.new.order.items k ≡ Some t))) same (e.1, e.2)
      ];
    }
