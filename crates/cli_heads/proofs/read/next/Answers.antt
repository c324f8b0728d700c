use Rattle.std.proofs.Common.{◌≡◌, ◌∙◌, true, Some, length, slice_get, IfOk, refl, sym, subst, ap}
use Rattle.std.proofs.lemmas.Option.{slice_get_read}
use Rattle.std.proofs.Common.{Option}
use Rattle.cil_rows.specs.declared.row.Row.{Row}
use Rattle.cli_heads.specs.declared.begun.Begun.{Begun}
use Rattle.cli_heads.specs.Head.{is_plain}
use Rattle.cli_heads.proofs.Begins.{begun_more}
use Rattle.cli_heads.proofs.read.next.Goals as goal

pub returns-then-is_plain : goal.returns-then-is_plain
returns-then-is_plain c =
    let s = c.args.maker.now in
    let stands : slice_get s.rows.now c.args.k ≡ Some c.index-maker-k.result = slice_get_read s.rows.now (length s.rows.now) c.args.k _ refl c.requires.within c.index-maker-k.is in
    let read = stands ∙ ap (λ (row : Row). Some row) c.index-maker-k.is in
    let plain : is_plain s c.args.k ≡ true = sym c.is_plain.ensures ∙ c.if-is_plain.true in
    let e = begun_more s c.args.k _ c.args.before read c.requires.is plain in
    let P : Option Begun → Type 0 = λ o. IfOk c.with.result (λ more. more ≡ o) in
    subst P (sym e) c.with.ensures
