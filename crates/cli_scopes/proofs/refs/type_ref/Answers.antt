use Rattle.std.proofs.Common.{◌∙◌, ℕ, List, inl, sym, ap, subst}
use Rattle.cli_metadata.specs.Metadata.{IsString}
use Rattle.cli_tables.specs.declared.types.TypeRefRow.{TypeRefRow}
use Rattle.cli_scopes.specs.Refs.{scope_of_row}
use Rattle.cli_scopes.proofs.refs.type_ref.Goals as goal

pub returns-in-Ok-string : goal.returns-in-Ok-string
returns-in-Ok-string c =
    let m = c.args.metadata.now in
    let space : IsString m.strings c.row-row.result.namespace c.as_bytes.result.now =
    subst (λ (t : List ℕ). IsString m.strings c.row-row.result.namespace t) (sym c.as_bytes.ensures.value) c.in-Ok.ensures.found in
    let name : IsString m.strings c.row-row.result.name c.as_bytes-in-Ok-string.result.now =
    subst (λ (t : List ℕ). IsString m.strings c.row-row.result.name t) (sym c.as_bytes-in-Ok-string.ensures.value) c.in-Ok-string.ensures.found in
    inl (
      (
        subst (λ (r : TypeRefRow). IsString m.strings r.namespace c.as_bytes.result.now) c.row-row.ensures space,
        subst (λ (r : TypeRefRow). IsString m.strings r.name c.as_bytes-in-Ok-string.result.now) c.row-row.ensures name,
      ),
      c.scope_of-scope.ensures ∙ ap (λ (r : TypeRefRow). scope_of_row m r) c.row-row.ensures,
    )
