use Rattle.std.proofs.lemmas.Result.{IfOk-weaker}
use Rattle.std.proofs.Common.{Vec, Option, subst}
use Rattle.std.specs.declared.alloc.Global.{Global}
use Rattle.dc_base.specs.declared.names.Token.{Token}
use Rattle.cli_signature.specs.declared.raw.RawTy.{RawTy}
use Rattle.cli_sig_tokens.specs.Spec.{IsSpecOf}
use Rattle.cli_sig_tokens.proofs.Said.{is_spec, no_spec, spec_nowhere}
use Rattle.cli_sig_tokens.proofs.tokens.spec_tokens.Goals as goal

pub returns-in-Some : goal.returns-in-Some
returns-in-Some c =
    IfOk-weaker _ _ _ (λ (found : Vec Token Global) is. is_spec c.args.metadata.now c.args.i c.in-Ok.blob.now c.in-Some.ty found.items c.in-Ok.ensures.found (subst (λ (o : Option RawTy). IsSpecOf c.in-Ok.blob.now o) c.in-Some.is c.in_ok-ty-in-Ok.ensures) is) c.tokens.ensures

pub returns-in-None : goal.returns-in-None
returns-in-None c = no_spec c.args.metadata.now c.args.i c.in-Ok.blob.now _ c.in-Ok.ensures.found (subst (λ (o : Option RawTy). IsSpecOf c.in-Ok.blob.now o) c.in-None.is c.in_ok-ty-in-Ok.ensures) c.new.ensures.items

pub returns-in-Err : goal.returns-in-Err
returns-in-Err c = spec_nowhere c.args.metadata.now c.args.i _ _ c.in-Err.ensures.fault c.new-in-Err.ensures.items
