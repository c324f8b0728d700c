use Rattle.std.proofs.Common.{◌≡◌, ◌+◌, ◌<◌, Some, length, slice_get, refl, sym, ◌∙◌, ap, arith}
use Rattle.std.proofs.lemmas.Option.{slice_get_read}
use Rattle.cil_rows.specs.declared.row.Row.{Row}
use Rattle.cil_rows.specs.declared.row.Row.TheVariants.{Unbox}
use Rattle.cli_bodies.specs.Unboxes.{IsUnread}
use Rattle.cli_bodies.specs.Earlier.{IsLeastSoFar}
use Rattle.cli_bodies.proofs.Sooner.{kept, taken, some, none}
use Rattle.cli_bodies.proofs.Places.{one_unbox, unbox_within}
use Rattle.cli_bodies.proofs.unboxes.unread.Goals as goal
use Rattle.cli_bodies.proofs.unboxes.unread.Goals.{then-is_unread, else-is_unread}

pub loop-k-preserved : goal.loop-k-preserved
loop-k-preserved c =
    let s = c.args.method.now in
    let stands : slice_get s.rows.now c.loop-k.k ≡ Some c.row-item.result = slice_get_read s.rows.now (length s.rows.now) c.loop-k.k _ refl (omega arith) c.row-item.is in
    elim c.if-is_unread.branch as (λ _. IsLeastSoFar (IsUnread s) (c.loop-k.k + 1) c.if-is_unread.least) [
      | then-is_unread w ↦
          let found = rw w.if-is_unread.true at c.is_unread.ensures.yes in
          let off : IsUnread s c.loop-k.k w.index-code-k.result.0 = record {
            token = found.0;
            is = stands ∙ ap (λ (row : Row). Some row) found.1;
            instr = w.index-code-k.result.1;
            stands = slice_get_read s.body.now.code (length s.body.now.code) c.loop-k.k _ refl (omega (arith, c.requires.as_many)) (rw c.items-code.ensures at w.index-code-k.is);
            other = found.2;
          } in
          rw (w.least-is, w.sooner-least.ensures, ← w.index-code-k.is) (taken (IsUnread s) c.loop-k.k _ c.loop-k.least off (λ m. one_unbox s c.loop-k.k _ m off) c.loop-k.invariant)
      | else-is_unread w ↦
          let read = rw w.if-is_unread.false at c.is_unread.ensures.no in
          rw w.least-is (
          kept (IsUnread s) c.loop-k.k c.loop-k.least
          (λ n u.
          let both : Some c.row-item.result ≡ Some (Unbox u.token) = sym stands ∙ u.is in
          let same : c.row-item.result ≡ Unbox u.token = cc in
          u.other (read u.token same)) c.loop-k.invariant
          )
    ]

pub returns-clause-some : goal.returns-clause-some
returns-clause-some c =
    let s = c.args.method.now in
    some (IsUnread s) c.loop-k.k c.loop-k.least
    (λ k n off. let lt : k < length s.rows.now = unbox_within s k n off in omega arith) c.loop-k.invariant

pub returns-clause-none : goal.returns-clause-none
returns-clause-none c =
    let s = c.args.method.now in
    none (IsUnread s) c.loop-k.k c.loop-k.least
    (λ k n off. let lt : k < length s.rows.now = unbox_within s k n off in omega arith) c.loop-k.invariant
