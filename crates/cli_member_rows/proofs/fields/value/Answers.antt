use Rattle.std.proofs.Common.{◌≡◌, Option, sym, subst}
use Rattle.class_rows.specs.declared.row.Literal.{Literal}
use Rattle.cli_constants.specs.Values.{literal_of}
use Rattle.cli_member_rows.specs.Fields.{IsValue, says, no_blob}
use Rattle.cli_member_rows.proofs.Handed.{handed}
use Rattle.cli_member_rows.proofs.fields.value.Goals as goal

pub returns-in-Ok : goal.returns-in-Ok
returns-in-Ok c =
    handed (λ (v : Option Literal). v ≡ literal_of c.args.row.element c.in-Ok.bytes.now) (IsValue c.args.metadata.now c.args.row) c.literal_of.result
    (λ v is. subst (λ (x : Option Literal). IsValue c.args.metadata.now c.args.row x) (sym is) (says c.in-Ok.bytes.now c.in-Ok.ensures.found)) c.literal_of.ensures

pub returns-in-Err : goal.returns-in-Err
returns-in-Err c = no_blob c.in-Err.field-0 c.in-Err.ensures.fault
