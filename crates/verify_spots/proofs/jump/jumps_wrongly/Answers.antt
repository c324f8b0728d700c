use Rattle.std.proofs.Common.{ℕ, List, sym, subst}
use Rattle.std.specs.Bool.{OnTrue, OnFalse}
use Rattle.std.specs.List.{Contains}
use Rattle.cil_rows.specs.declared.row.Row.{Row}
use Rattle.verify_spots.specs.Spots.{HasRegion, Crosses, JumpsWrongly}
use Rattle.verify_spots.proofs.Jumps.{leads_yes, leads_no}
use Rattle.verify_spots.proofs.jump.jumps_wrongly.Goals as goal

pub returns-in-EndFinally-clause-yes : goal.returns-in-EndFinally-clause-yes
returns-in-EndFinally-clause-yes c =
    subst (λ (row : Row). OnTrue c.ends_no_finally.result (JumpsWrongly c.args.regions.now.body.now c.args.number row)) (sym c.in-EndFinally.is) c.ends_no_finally.ensures.yes

pub returns-in-EndFinally-clause-no : goal.returns-in-EndFinally-clause-no
returns-in-EndFinally-clause-no c =
    subst (λ (row : Row). OnFalse c.ends_no_finally.result (JumpsWrongly c.args.regions.now.body.now c.args.number row → ⊥)) (sym c.in-EndFinally.is) c.ends_no_finally.ensures.no

pub returns-in_default : goal.returns-in_default
returns-in_default c = record {
  yes =
      leads_yes c.args.regions.now.body.now c.args.number c.crosses_to_some.result c.args.row.now c.in_default.not-Return c.in_default.not-Leave c.in_default.not-EndFinally
      (subst (λ (aims : List ℕ). OnTrue c.crosses_to_some.result ((j : ℕ) × Contains aims j × HasRegion c.args.regions.now.body.now (Crosses c.args.regions.now.body.now c.args.number j))) c.aims.ensures c.crosses_to_some.ensures.yes);
  no =
      leads_no c.args.regions.now.body.now c.args.number c.crosses_to_some.result c.args.row.now c.in_default.not-Return c.in_default.not-Leave c.in_default.not-EndFinally
      (subst (λ (aims : List ℕ). OnFalse c.crosses_to_some.result ((j : ℕ) × Contains aims j × HasRegion c.args.regions.now.body.now (Crosses c.args.regions.now.body.now c.args.number j) → ⊥)) c.aims.ensures c.crosses_to_some.ensures.no);
}
