use Rattle.std.proofs.lemmas.Result.{IfOk-weaker}
use Rattle.std.proofs.Common.{Vec, subst}
use Rattle.std.specs.declared.alloc.Global.{Global}
use Rattle.dc_base.specs.declared.names.Token.{Token}
use Rattle.dc_base.specs.declared.failure.Or.{Or}
use Rattle.dc_causes.specs.Answer.{IsRefused}
use Rattle.cli_signature.specs.declared.raw.SigFault.{SigFault}
use Rattle.cli_signature.specs.Grammar.{IsBlob}
use Rattle.cli_signature.specs.Fault.{IsSigFault}
use Rattle.cli_signature.specs.declared.kind.Kind.TheVariants.{Method}
use Rattle.cli_sig_tokens.proofs.Said.{said, said_none, said_nowhere}
use Rattle.cli_sig_tokens.proofs.tokens.method_tokens.Goals as goal

pub returns-in-Ok-method_sig : goal.returns-in-Ok-method_sig
returns-in-Ok-method_sig c =
    IfOk-weaker _ _ _ (λ (found : Vec Token Global) is. said c.args.metadata.now Method c.args.i c.in-Ok.blob.now _ found.items c.in-Ok.ensures.found (c.in-Ok-method_sig.ensures.read.0, c.in-Ok-method_sig.ensures.read.1, c.in-Ok-method_sig.ensures.read.2) is) c.of_method.ensures

pub returns-in-Err-Fault : goal.returns-in-Err-Fault
returns-in-Err-Fault c = said_none c.args.metadata.now Method c.args.i c.in-Ok.blob.now c.in-Err-Fault.field-0-0 _ c.in-Ok.ensures.found (subst (λ (e : Or SigFault). IsRefused (IsSigFault (IsBlob Method) c.in-Ok.blob.now) e) c.in-Err-Fault.field-0-is c.in-Err-Fault.ensures.fault) c.new.ensures.items

pub returns-in-Err : goal.returns-in-Err
returns-in-Err c = said_nowhere c.args.metadata.now Method c.args.i _ _ c.in-Err.ensures.fault c.new-in-Err.ensures.items
