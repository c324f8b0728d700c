use Rattle.std.proofs.Common.{◌≡◌, ℕ, List, ap, ◌∙◌, rules, arith}
use Rattle.cil_rows.specs.Instruction.{row_of}
use Rattle.cil_rows.specs.Code.{Placed, numbered, starts_of}
use Rattle.cil_rows.proofs.Numbers.{map_next}
use Rattle.cil_rows.proofs.code.rows_of.Goals as goal

pub loop-placed-preserved : goal.loop-placed-preserved
loop-placed-preserved c =
    let starts : c.as_slice-in-loop-placed.result.now ≡ starts_of c.args.code.now = search rules in
    let row_at = λ (e : Placed). row_of (numbered (starts_of c.args.code.now) e.1) in
    let here =
    c.in_ok-row.ensures ∙ ap (λ (ss : List ℕ). row_of (numbered ss c.placed-item.result.1)) starts ∙ ap row_at c.placed-item.is in
    map_next row_at c.args.code.now c.loop-placed.rows.items c.push.new.self.items c.loop-placed.placed-index
    c.in_ok-row.field-0 c.placed-item.result (omega arith) c.loop-placed.invariant here (search rules)
