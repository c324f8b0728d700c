use Rattle.std.proofs.Common.{ℕ, List, subst}
use Rattle.cli_signature.specs.Grammar.{IsFieldSig}
use Rattle.cli_sig_tokens.proofs.Bare.{bare_is, lent_is_none}
use Rattle.cli_sig_tokens.proofs.spec.unless_lent.Goals as goal

pub returns-then-ty : goal.returns-then-ty
returns-then-ty c = lent_is_none c.requires.one c.args.blob.now c.args.ty (subst (λ (b : List ℕ). IsFieldSig b c.args.ty) c.requires.blob c.requires.read) c.if-ty.true

pub returns-else-ty : goal.returns-else-ty
returns-else-ty c = bare_is c.args.blob.now c.args.ty (subst (λ (b : List ℕ). IsFieldSig b c.args.ty) c.requires.blob c.requires.read) c.if-ty.false
