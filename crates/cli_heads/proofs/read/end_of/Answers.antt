use Rattle.std.proofs.Common.{◌≡◌, Some, length, slice_get, refl, sym, ◌∙◌, ap, arith}
use Rattle.std.proofs.lemmas.Option.{slice_get_read}
use Rattle.cli_heads.specs.Head.{called_by}
use Rattle.cli_heads.proofs.read.end_of.Goals as goal

pub returns-in-Some-clause-some : goal.returns-in-Some-clause-some
returns-in-Some-clause-some c =
    let s = c.args.maker.now in
    let stands : slice_get s.rows.now c.loop-k.k ≡ Some c.row-item.result = slice_get_read s.rows.now (length s.rows.now) c.loop-k.k _ refl (omega arith) c.row-item.is in
    record { calls = ap (λ row. called_by s row) stands ∙ sym c.in-Some.ensures; first = c.loop-k.invariant }
