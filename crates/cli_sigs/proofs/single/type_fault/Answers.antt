use Rattle.std.proofs.Common.{◌∙◌, ℕ, List, subst}
use Rattle.cli_signature.specs.declared.kind.Kind.TheVariants.{Field}
use Rattle.cli_signature.specs.Grammar.{IsBlob}
use Rattle.cli_signature.specs.Fault.{IsSigFault}
use Rattle.cli_sigs.proofs.Placed.{placed}
use Rattle.cli_sigs.proofs.single.type_fault.Goals as goal

pub earlier-requires : goal.earlier-requires
earlier-requires c =
    placed c.args.blob.now c.in-Err.fault (subst (λ (b : List ℕ). IsSigFault (IsBlob Field) b c.in-Err.fault) (c.as_slice.ensures.value ∙ c.in_ok-field.ensures) c.in-Err.ensures.fault)
