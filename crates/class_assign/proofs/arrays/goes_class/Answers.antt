use Rattle.std.proofs.Common.{ℕ, codes, sym, subst, inl, inr, ◌∙◌}
use Rattle.std.proofs.lemmas.Bool.{false≢true, eqb-true, eq-eqb}
use Rattle.class_rows.specs.Core.{IsSystem}
use Rattle.class_rows.specs.Lookups.{to_super, to_object}
use Rattle.class_assign.proofs.Ways.{class_back}
use Rattle.class_assign.proofs.arrays.goes_class.Goals as goal

pub returns-then-is_super-clause-yes : goal.returns-then-is_super-clause-yes
returns-then-is_super-clause-yes c = λ t. to_super c.args.t.0 c.args.above.0 (c.is_super.ensures.yes t)

pub returns-then-eq-clause-yes : goal.returns-then-eq-clause-yes
returns-then-eq-clause-yes c = λ t. to_object c.args.t.0 c.args.above.0 (c.is_interface.ensures.yes t) (subst (λ (n : ℕ). IsSystem c.args.types.now (codes "Object") n) (sym (eqb-true c.args.above.0 c.args.supers.now.object.0 (sym c.if-eq.ensures))) c.requires.object.is)

pub returns-then-eq-clause-no : goal.returns-then-eq-clause-no
returns-then-eq-clause-no c = λ h. elim (class_back c.args.types.now c.args.t.0 c.args.above.0 h) [
  | inl super ↦ absurd (false≢true (c.if-is_super.ensures.no super))
  | inr both ↦ c.is_interface.ensures.no both.0
]

pub returns-else-eq-clause-no : goal.returns-else-eq-clause-no
returns-else-eq-clause-no c = λ h. elim (class_back c.args.types.now c.args.t.0 c.args.above.0 h) [
  | inl super ↦ absurd (false≢true (c.if-is_super.ensures.no super))
  | inr both ↦ c.eq.ensures ∙ eq-eqb c.args.above.0 c.args.supers.now.object.0 (c.requires.object.one c.args.above.0 both.1)
]
