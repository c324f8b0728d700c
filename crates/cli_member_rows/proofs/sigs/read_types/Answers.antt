use Rattle.std.proofs.Common.{◌≡◌, sym, subst}
use Rattle.dc_base.specs.declared.failure.Or.{Or}
use Rattle.dc_causes.specs.Answer.{IsRefused}
use Rattle.cli_signature.specs.declared.raw.SigFault.{SigFault}
use Rattle.cli_signature.specs.declared.kind.Kind.TheVariants as sig_kind
use Rattle.cli_signature.specs.Grammar.{IsBlob}
use Rattle.cli_signature.specs.Fault.{IsSigFault}
use Rattle.cli_member_rows.specs.declared.sigs.MethodTypes.{MethodTypes}
use Rattle.cli_member_rows.specs.Said.{types_in, AreRead, reads, no_method}
use Rattle.cli_member_rows.proofs.Handed.{handed}
use Rattle.cli_member_rows.proofs.sigs.read_types.Goals as goal

pub returns-in-Ok : goal.returns-in-Ok
returns-in-Ok c =
    handed (λ (read : MethodTypes). read ≡ types_in c.args.types.now c.in-Ok.sig) (AreRead c.args.types.now c.args.blob.now) c.types_of.result
    (λ read is. subst (λ (x : MethodTypes). AreRead c.args.types.now c.args.blob.now x) (sym is) (reads c.in-Ok.sig c.in-Ok.ensures.read)) c.types_of.ensures

pub returns-in-Err-Fault : goal.returns-in-Err-Fault
returns-in-Err-Fault c =
    let fault : IsSigFault (IsBlob sig_kind.Method) c.args.blob.now c.in-Err-Fault.field-0-0 =
    subst (λ (o : Or SigFault). IsRefused (IsSigFault (IsBlob sig_kind.Method) c.args.blob.now) o) c.in-Err-Fault.field-0-is c.in-Err-Fault.ensures.fault in
    subst (λ (x : MethodTypes). AreRead c.args.types.now c.args.blob.now x) (sym c.no_types.ensures) (no_method c.in-Err-Fault.field-0-0 fault)
