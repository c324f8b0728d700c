use Rattle.std.proofs.Common.{◌∙◌, ℕ, List, Option, sym, ap, subst, arith}
use Rattle.cli_tables.specs.declared.types.TypeDefRow.{TypeDefRow}
use Rattle.cli_names.specs.Texts.{IsTextAt}
use Rattle.cli_names.specs.Names.{own_types, within_own}
use Rattle.cli_names.proofs.names.own_name.Goals as goal

pub overflow_add-k : goal.overflow_add-k
overflow_add-k c = omega (arith, c.requires.row, c.requires.few)

pub returns : goal.returns
returns c =
    let m = c.args.metadata.now in
    let space : IsTextAt m c.row-row.result.namespace c.as_bytes.result.now =
    subst (λ (t : List ℕ). IsTextAt m c.row-row.result.namespace t) (sym c.as_bytes.ensures.value) c.text_at.ensures in
    let name : IsTextAt m c.row-row.result.name c.as_bytes-2.result.now =
    subst (λ (t : List ℕ). IsTextAt m c.row-row.result.name t) (sym c.as_bytes-2.ensures.value) c.text_at-2.ensures in
    record {
      within = c.within_own.ensures ∙ ap (λ (n : ℕ). within_own n c.args.own_from c.outer_at.result) c.own_types.ensures ∙ ap (λ (o : Option ℕ). within_own (own_types m) c.args.own_from o) c.outer_at.ensures;
      space = subst (λ (r : TypeDefRow). IsTextAt m r.namespace c.as_bytes.result.now) c.row-row.ensures space;
      called = subst (λ (r : TypeDefRow). IsTextAt m r.name c.as_bytes-2.result.now) c.row-row.ensures name;
    }
