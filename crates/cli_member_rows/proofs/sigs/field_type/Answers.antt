use Rattle.std.proofs.Common.{sym, subst}
use Rattle.dc_base.specs.declared.ty.Ty.{Ty}
use Rattle.cli_member_rows.specs.Said.{IsFieldType, says, no_signature, no_blob}
use Rattle.cli_member_rows.proofs.sigs.field_type.Goals as goal

pub returns-in-Ok-field_sig : goal.returns-in-Ok-field_sig
returns-in-Ok-field_sig c =
    subst (λ (ty : Ty). IsFieldType c.args.metadata.now c.args.types.now c.args.signature ty) (sym c.said.ensures)
    (says c.in-Ok.blob.now c.in-Ok-field_sig.raw c.in-Ok.ensures.found c.in-Ok-field_sig.ensures.read)

pub returns-in-Err-field_sig : goal.returns-in-Err-field_sig
returns-in-Err-field_sig c =
    subst (λ (ty : Ty). IsFieldType c.args.metadata.now c.args.types.now c.args.signature ty) (sym c.nothing_type.ensures)
    (no_signature c.in-Ok.blob.now c.in-Err-field_sig.field-0 c.in-Ok.ensures.found c.in-Err-field_sig.ensures.fault)

pub returns-in-Err : goal.returns-in-Err
returns-in-Err c =
    subst (λ (ty : Ty). IsFieldType c.args.metadata.now c.args.types.now c.args.signature ty) (sym c.nothing_type-in-Err.ensures)
    (no_blob c.in-Err.field-0 c.in-Err.ensures.fault)
