use Rattle.std.proofs.Common.{◌≡◌, ◌∙◌, ℕ, ◌+◌, ◌<◌, List, [], ◌∷◌, Some, length, inl, inr, sym, ap, subst, arith, length-append}
use Rattle.std.specs.List.{slice_get}
use Rattle.std.proofs.lemmas.List.{length-map}
use Rattle.class_keys.proofs.Items.{pushed_item}
use Rattle.class_rows.specs.declared.row.TypeRow.{TypeRow}
use Rattle.cli_own.specs.Rows.{IsOwnTypeRow}
use Rattle.cli_own.proofs.Named.{read_named}
use Rattle.cli_own.proofs.row.own_type_rows.Goals as goal

pub type_row-requires-clause-named : goal.type_row-requires-clause-named
type_row-requires-clause-named c =
    let named = c.in_ok-named.named.items in
    let within : c.loop-k.k < length named = (let long = c.in_ok-named.ensures.long in let test = c.loop-k-test.true in let rows = c.rows-k-end.ensures in let same = length-map named (λ l. l.items) in omega (arith, long, test, rows, same)) in
    c.as_slice.ensures.value ∙ read_named (λ l. l.items) c.args.own.now.metadata.now c.args.own.now.tokens.now named c.loop-k.k c.index.result.now c.in_ok-named.ensures within c.index.ensures

pub loop-k-preserved : goal.loop-k-preserved
loop-k-preserved c =
    let own = c.args.own.now in
    let items = c.in_ok-push.ensures.items in
    let old = c.loop-k.rows.items in
    let new = c.in_ok-type_row.field-0 in
    let long = length-append old (new ∷ []) in
    record {
      long = (let same = ap (λ (xs : List TypeRow). length xs) items in omega (arith, same, long, c.loop-k.invariant.long));
      within = (let test = c.loop-k-test.true in let rows = c.rows-k-end.ensures in omega (arith, test, rows));
      each = λ j row h. elim (pushed_item old new j row (subst (λ (xs : List TypeRow). slice_get xs j ≡ Some row) items h)) [
        | inl before ↦ c.loop-k.invariant.each j row before
        | inr here ↦
            let at : c.loop-k.k + 1 ≡ j + 2 = omega (arith, here.0, c.loop-k.invariant.long) in
            subst (λ (x : TypeRow). IsOwnTypeRow own.metadata.now own.fields.now own.tokens.now own.outers.now own.system (j + 2) x) (sym here.1)
            (subst (λ (n : ℕ). IsOwnTypeRow own.metadata.now own.fields.now own.tokens.now own.outers.now own.system n new) at c.in_ok-type_row.ensures)
      ];
    }

pub returns : goal.returns
returns c = record {
  long = (let long = c.loop-k.invariant.long in let within = c.loop-k.invariant.within in let over = c.loop-k-test.false in let rows = c.rows-k-end.ensures in omega (arith, long, within, over, rows));
  each = c.loop-k.invariant.each;
}
