use Rattle.std.proofs.Common.{◌∙◌, get_or, sym, ap, subst}
use Rattle.std.proofs.lemmas.Bool.{eqb-false}
use Rattle.cli_metadata.specs.Metadata.{IsItem}
use Rattle.cli_tables.specs.declared.types.TypeSpecRow.{TypeSpecRow}
use Rattle.cli_profile.specs.Rows.{IsArray}
use Rattle.cli_profile.proofs.Items.{one_item, first_byte}
use Rattle.cli_profile.proofs.Answered.{on_false}
use Rattle.cli_profile.proofs.rows.is_array.Goals as goal

pub returns-in-Ok-len1-up-clause-no : goal.returns-in-Ok-len1-up-clause-no
returns-in-Ok-len1-up-clause-no c = on_false (IsArray c.args.metadata.now c.args.n) _ (λ e array.
    let item = subst (λ (row : TypeSpecRow). IsItem c.args.metadata.now.blobs row.signature array.blob) (sym c.row.ensures) array.stands in
    let same = one_item c.args.metadata.now.blobs c.row.result.signature array.blob c.in-Ok-len1-up.field-0.now c.one_number_begins.ensures item c.in-Ok-len1-up.ensures.found in
    eqb-false _ _ e (ap (λ xs. get_or xs 0 0) (sym same) ∙ first_byte array.blob 0x1D array.begins))
