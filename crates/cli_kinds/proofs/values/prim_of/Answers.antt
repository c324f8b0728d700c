use Rattle.std.proofs.Common.{Option, sym, subst}
use Rattle.dc_base.specs.declared.ty.Prim_.{Prim_}
use Rattle.cli_kinds.specs.Underlying.{IsPrimOf, says, no_signature, no_blob}
use Rattle.cli_kinds.proofs.values.prim_of.Goals as goal

pub returns-in-Ok-field_sig : goal.returns-in-Ok-field_sig
returns-in-Ok-field_sig c =
    subst (λ (found : Option Prim_). IsPrimOf c.args.metadata.now c.args.row found) (sym c.prim_alone.ensures)
    (says c.in-Ok.blob.now c.in-Ok-field_sig.raw c.in-Ok.ensures.found c.in-Ok-field_sig.ensures.read)

pub returns-in-Err-field_sig : goal.returns-in-Err-field_sig
returns-in-Err-field_sig c = no_signature c.in-Ok.blob.now c.in-Err-field_sig.field-0 c.in-Ok.ensures.found c.in-Err-field_sig.ensures.fault

pub returns-in-Err : goal.returns-in-Err
returns-in-Err c = no_blob c.in-Err.field-0 c.in-Err.ensures.fault
