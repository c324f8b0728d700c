use Rattle.std.proofs.Common.{rules, refl, sym}
use Rattle.dc_causes.specs.Rows.{OfRow}
use Rattle.dc_causes.proofs.Rows.{fault_at, all_passed}
use Rattle.dc_causes.proofs.condition.first_broken.Goals as goal

pub returns-in-Some-clause-broken : goal.returns-in-Some-clause-broken
returns-in-Some-clause-broken g c =
    let e = c.in-Some.ensures in
    fault_at (OfRow g.C.Condition.rows g.C.Condition.Holds c.args.subject.now) c.args.conditions.now c.loop-condition.condition-index c.condition-item.result (c.condition-item.result, c.in-Some.row) (search rules) (sym c.condition-item.is) c.loop-condition.invariant
    (c.in-Some.row, e.within, e.before, (e.broken, refl))

pub returns-clause-met : goal.returns-clause-met
returns-clause-met g c =
    all_passed (OfRow g.C.Condition.rows g.C.Condition.Holds c.args.subject.now) c.args.conditions.now c.loop-condition.condition-index (search rules) c.loop-condition.invariant
