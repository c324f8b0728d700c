use Rattle.std.proofs.lemmas.Result.{IfOk-weaker}
use Rattle.std.proofs.Common.{Vec}
use Rattle.std.specs.declared.alloc.Global.{Global}
use Rattle.dc_base.specs.declared.names.Token.{Token}
use Rattle.cli_signature.specs.declared.kind.Kind.TheVariants.{Field}
use Rattle.cli_sig_tokens.proofs.Said.{said, said_none, said_nowhere}
use Rattle.cli_sig_tokens.proofs.tokens.field_tokens.Goals as goal

pub returns-in-Ok-field_sig : goal.returns-in-Ok-field_sig
returns-in-Ok-field_sig c =
    IfOk-weaker _ _ _ (λ (found : Vec Token Global) is. said c.args.metadata.now Field c.args.i c.in-Ok.blob.now _ found.items c.in-Ok.ensures.found c.in-Ok-field_sig.ensures.read is) c.tokens.ensures

pub returns-in-Err-field_sig : goal.returns-in-Err-field_sig
returns-in-Err-field_sig c = said_none c.args.metadata.now Field c.args.i c.in-Ok.blob.now _ _ c.in-Ok.ensures.found c.in-Err-field_sig.ensures.fault c.new.ensures.items

pub returns-in-Err : goal.returns-in-Err
returns-in-Err c = said_nowhere c.args.metadata.now Field c.args.i _ _ c.in-Err.ensures.fault c.new-in-Err.ensures.items
