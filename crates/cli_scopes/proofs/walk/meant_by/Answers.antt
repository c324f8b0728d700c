use Rattle.std.proofs.Common.{◌≡◌, ℕ, Some, inl, inr, subst, arith}
use Rattle.std.specs.List.{slice_get}
use Rattle.std.proofs.lemmas.Bool.{cases_lt}
use Rattle.cli_scopes.specs.declared.walk.Mark.TheVariants.{New}
use Rattle.cli_scopes.proofs.walk.meant_by.Goals as goal

pub loop-root-preserved : goal.loop-root-preserved
loop-root-preserved c =
    let e = c.in_ok-settle.ensures in
    record {
      between = e.between;
      met = λ s lt h. elim (cases_lt s c.loop-root.root) [
        | inl before ↦ c.loop-root.invariant.met s before (e.stay s h)
        | inr past ↦
            let same : s ≡ c.loop-root.root = omega (arith, lt, past) in
            e.met (subst (λ (x : ℕ). slice_get c.settle.new.marks x ≡ Some New) same h)
      ];
    }
