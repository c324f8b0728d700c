-- Rules in their order: the first, and those behind it.
use Rattle.std.proofs.Common.{◌≤◌, ◌-◌, List, [], ◌∷◌, Result, Err, length, get_or, take, drop, refl, subst, arith}
use Rattle.std.proofs.lemmas.List.{take_rest}
use Rattle.dc_causes.specs.Step.{Test, stop, go}
use Rattle.dc_causes.specs.Causes.{InOrder}
use Rattle.verify_rules.specs.declared.rule.Rule.{Rule}

module _ (Kept : Rule → Type 0) (d : Rule) where
  pub more : (asked : List Rule) (r : Result (Unit {0}) Rule) → 1 ≤ length asked → Kept (get_or asked 0 d)
      → InOrder (λ rule. Test (Kept rule) rule) (take (length asked - 1) (drop 1 asked)) r → InOrder (λ rule. Test (Kept rule) rule) asked r
  more [] r some kept rest = absurd (omega (arith, some))
  more (rule ∷ asked) r some kept rest = go tt kept (subst (λ (behind : List Rule). InOrder (λ rule. Test (Kept rule) rule) behind r) (take_rest (rule ∷ asked) 1) rest)

  pub first : (asked : List Rule) → 1 ≤ length asked → (Kept (get_or asked 0 d) → ⊥)
      → InOrder (λ rule. Test (Kept rule) rule) asked (Err (get_or asked 0 d))
  first [] some broken = absurd (omega (arith, some))
  first (rule ∷ asked) some broken = stop rule (broken, refl) refl
