use Rattle.std.proofs.Common.{◌≡◌, ◌∙◌, List, ℕ, Option, sym, ap, subst, refl}
use Rattle.dc_base.specs.declared.names.Token.{Token}
use Rattle.cli_metadata.specs.Metadata.{coded_of}
use Rattle.cli_tables.specs.declared.types.TypeDefRow.{TypeDefRow}
use Rattle.cli_flags.specs.Flags.{is_set, type_access}
use Rattle.cli_names.specs.Texts.{IsTextAt}
use Rattle.cli_kinds.specs.Bases.{base_of}
use Rattle.cli_kinds.specs.Kinds.{kind_of}
use Rattle.cli_own.specs.Rows.{type_def}
use Rattle.cli_own.proofs.row.type_row.Goals as goal

pub returns : goal.returns
returns c =
    let m = c.args.own.now.metadata.now in
    let tokens = c.args.own.now.tokens.now in
    let row : c.row-row.result ≡ type_def m c.args.n = c.row-row.ensures in
    record {
      name = subst (λ (r : TypeDefRow). IsTextAt m r.name c.in_ok-name.name) row (subst (λ (t : List ℕ). IsTextAt m c.row-row.result.name t) (sym c.in_ok-name.ensures) c.text_at.ensures);
      space = subst (λ (r : TypeDefRow). IsTextAt m r.namespace c.in_ok-space.space) row (subst (λ (t : List ℕ). IsTextAt m c.row-row.result.namespace t) (sym c.in_ok-space.ensures) c.text_at-2.ensures);
      outer = c.outer_of.ensures;
      base = c.base_of-base.ensures ∙ ap (λ (t : Option Token). base_of tokens t) c.token.ensures ∙ ap (λ (r : TypeDefRow). base_of tokens (coded_of r.extends.kind r.extends.cell)) row;
      values = c.underlying-values.result;
      underlying = c.underlying-values.ensures;
      kind = c.kind_of.ensures ∙ ap (λ (r : TypeDefRow). kind_of c.args.own.now.system r.flags c.base_of-base.result c.underlying-values.result) row;
      access = c.type_access.ensures ∙ ap (λ (r : TypeDefRow). type_access r.flags) row;
      bases = c.of-bases.ensures ∙ c.in_ok-from_slice.ensures.items ∙ c.requires.named;
      is_abstract = c.has_type_flag.ensures ∙ ap (λ (r : TypeDefRow). is_set 128 r.flags) row;
      is_sealed = c.has_type_flag-2.ensures ∙ ap (λ (r : TypeDefRow). is_set 256 r.flags) row;
      own = refl;
    }
