use Rattle.std.proofs.Common.{ℕ, below_more, subst, arith}
use Rattle.std.proofs.lemmas.Option.{slice_get_within}
use Rattle.cil_rows.specs.declared.row.Row.{Row}
use Rattle.verify_spots.specs.Spots.{CallsConstructor, IsRow}
use Rattle.verify_spots.proofs.There.{item_is}
use Rattle.verify_spots.proofs.head.first_call.Goals as goal

pub loop-number-preserved : goal.loop-number-preserved
loop-number-preserved c =
    below_more (λ (k : ℕ). (row : Row) → IsRow c.args.setting.now k row → CallsConstructor c.args.setting.now row → ⊥) c.loop-number.number c.loop-number.invariant
    (λ row is calls.
    c.if-calls_constructor.ensures.no
    (subst (λ (r : Row). CallsConstructor c.args.setting.now r) (item_is c.args.setting.now.rows.now c.loop-number.number c.row-item.result row c.row-item.is is) calls))

pub returns-clause-none : goal.returns-clause-none
returns-clause-none c = λ none k row is.
    let within = slice_get_within c.args.setting.now.rows.now k row is in
    c.loop-number.invariant k (omega (arith, within, c.loop-number-test.false)) row is
