use Rattle.std.proofs.Common.{◌≡◌, ℕ, Some, inl, inr, subst, arith}
use Rattle.std.specs.List.{slice_get}
use Rattle.std.proofs.lemmas.Bool.{cases_lt}
use Rattle.std.proofs.lemmas.Option.{slice_get_within}
use Rattle.class_rows.specs.declared.row.TypeRow.{TypeRow}
use Rattle.class_keys.proofs.Items.{read_item, one_item}
use Rattle.cli_kinds.specs.System.{IsSystemRow}
use Rattle.cli_kinds.proofs.system.system_type.Goals as goal

pub loop-t-preserved : goal.loop-t-preserved
loop-t-preserved c = λ k lt at. elim (cases_lt k c.loop-t.t) [
  | inl before ↦ c.loop-t.invariant k before at
  | inr past ↦
      let same : k ≡ c.loop-t.t = omega (arith, lt, past) in
      let stands = read_item c.args.references.now c.loop-t.t c.index-references-t.result c.loop-t-test.true c.index-references-t.is in
      let one : at.row ≡ c.index-references-t.result = one_item c.args.references.now c.loop-t.t at.row c.index-references-t.result (subst (λ (x : ℕ). slice_get c.args.references.now x ≡ Some at.row) same at.stands) stands in
      c.if-is_system.ensures.no (subst (λ (r : TypeRow). IsSystemRow c.args.name.now r) one at.is)
]

pub returns : goal.returns
returns c = λ t at.
    let lt = slice_get_within c.args.references.now t at.row at.stands in
    let over = c.loop-t-test.false in
    c.loop-t.invariant t (omega (arith, lt, over)) at
