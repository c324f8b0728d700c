use Rattle.std.proofs.Common.{◌∙◌, ℕ, List, subst}
use Rattle.cli_signature.specs.declared.kind.Kind.TheVariants.{Field}
use Rattle.cli_signature.specs.Grammar.{IsBlob}
use Rattle.cli_signature.specs.Fault.{IsSigFault}
use Rattle.cli_sig_tokens.proofs.Bare.{fault_is_none}
use Rattle.cli_sig_tokens.proofs.spec.type_spec.Goals as goal

pub returns : goal.returns
returns c = λ ty is.
    fault_is_none c.one_reading.ensures.no_fault c.args.blob.now c.in-Err.field-0 (subst (λ (b : List ℕ). IsSigFault (IsBlob Field) b c.in-Err.field-0) (c.as_slice.ensures.value ∙ c.in_ok-field.ensures) c.in-Err.ensures.fault) ty is
