use Rattle.std.proofs.Common.{◌≡◌, ℕ, ◌<◌, Some, inl, inr, refl, sym, ◌∙◌, ap, subst, arith}
use Rattle.std.specs.List.{slice_get}
use Rattle.std.proofs.lemmas.Bool.{cases_lt}
use Rattle.std.proofs.lemmas.Option.{slice_get_within}
use Rattle.class_keys.proofs.Items.{one_item, read_item}
use Rattle.class_rows.specs.declared.row.TypeRow.{TypeRow}
use Rattle.class_names.proofs.tests.outers_are_there.Goals as goal

pub loop-row-preserved : goal.loop-row-preserved
loop-row-preserved c = λ t o lt outer. elim (cases_lt t c.loop-row.row-index) [
  | inl less ↦ c.loop-row.invariant t o less outer
  | inr le ↦
      let e : c.loop-row.row-index ≡ t = omega (arith, lt, le) in
      let stands = read_item c.args.types.now c.loop-row.row-index c.row-item.result c.loop-row-test.true c.row-item.is in
      let at_t = subst (λ (k : ℕ). slice_get c.args.types.now k ≡ Some c.row-item.result) e stands in
      let same = one_item c.args.types.now t c.row-item.result outer.row at_t outer.stands in
      c.if-not-outer_is_there.ensures refl o (ap (λ (r : TypeRow). r.outer) same ∙ outer.is)
]

pub returns : goal.returns
returns c = λ yes t o outer.
    let lt = slice_get_within c.args.types.now t outer.row outer.stands in
    c.loop-row.invariant t o (omega (arith, lt, c.loop-row-test.false)) outer
