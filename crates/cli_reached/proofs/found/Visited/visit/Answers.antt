use Rattle.std.proofs.Common.{◌≡◌, ◌<◌, ◌+◌, false, length, get_or, refl, sym, ◌∙◌, arith}
use Rattle.std.proofs.lemmas.List.{get_or_default}
use Rattle.cli_reached.specs.Visited.{AreVisited, IsMarked}
use Rattle.cli_reached.proofs.Visiting.{begin, old_row, new_row}
use Rattle.cli_reached.proofs.found.Visited.visit.Goals as goal
use Rattle.cli_reached.proofs.found.Visited.visit.Goals.{then-number-len+then-not-index+in_ok-push, else-number-len, else-number-len-via-then-number-len+else-not-index, else-number-len-via-else-number-len}

pub loop-row-init : goal.loop-row-init
loop-row-init c = begin c.args.rows.now c.args.self.now.marks.items c.args.self.now.todo.items c.requires

pub loop-row-preserved : goal.loop-row-preserved
loop-row-preserved c =
    let rows = c.args.rows.now in
    let m0 = c.args.self.now.marks.items in
    let t0 = c.args.self.now.todo.items in
    let i = c.loop-row.row-index in
    elim c.if-number-len.branch as (λ _. AreVisited (i + 1) rows m0 t0 c.if-number-len.self.marks.items c.if-number-len.self.todo.items) [
      | then-number-len+then-not-index+in_ok-push w ↦
          let row = get_or rows i 0 in
          let lt : row < length c.loop-row.self.marks.items = omega (arith, w.if-number-len.true, c.len.ensures, c.loop-row.self.marks.ok.0) in
          let off : get_or c.loop-row.self.marks.items row false ≡ false =
          get_or_default c.loop-row.self.marks.items row false w.index.result.now lt ∙ (sym w.index.ensures ∙ w.if-not-index.true) in
          rw (w.self-is, w.in_ok-push.ensures.items) (
          new_row i row rows m0 t0 c.loop-row.self.marks.items c.loop-row.self.todo.items c.loop-row.invariant refl lt off
          )
      | else-number-len w ↦
          let row = get_or rows i 0 in
          let at : row < length m0 → IsMarked c.loop-row.self.marks.items row =
          λ lt.
          let below : row < length c.loop-row.self.marks.items = omega (arith, c.loop-row.invariant.as_many) in
          elim w.else-number-len.branch as (λ _. IsMarked c.loop-row.self.marks.items row) [
            | else-number-len-via-then-number-len+else-not-index w' ↦
                get_or_default c.loop-row.self.marks.items row false w'.index.result.now below ∙ (sym w'.index.ensures ∙ w'.if-not-index.false)
            | else-number-len-via-else-number-len w' ↦ absurd (omega (arith, w'.if-number-len.false, c.len.ensures, c.loop-row.self.marks.ok.0))
          ] in
          rw w.self-is (old_row i rows m0 t0 c.loop-row.self.marks.items c.loop-row.self.todo.items c.loop-row.invariant at)
    ]
