-- The fault of a field's signature isn't at its lead byte.
use Rattle.std.proofs.Common.{◌≡◌, ℕ, ◌≤◌, zero, suc, List, [], ◌∷◌, ◌++◌, length, take, refl, subst, arith}
use Rattle.cli_signature.specs.declared.kind.Kind.TheVariants.{Field}
use Rattle.cli_signature.specs.declared.raw.SigFault.{SigFault}
use Rattle.cli_signature.specs.declared.raw.SigFault.TheVariants.{Truncated, BadElement, OutOfProfile, Trailing}
use Rattle.cli_signature.specs.Grammar.{Bare, Plain, IsBlob, Sig, Derives, spelled}
use Rattle.cli_signature.specs.Fault.{IsViable, IsSigFault}
use Rattle.cli_signature.proofs.Stopping.{part-char}
use Rattle.cli_sigs.specs.Forms.{IsPlaced}

some_field : IsBlob Field (0x06 ∷ (0x03 ∷ []))
some_field = (record { lead = 0x06; types = Bare (Plain 0x03) ∷ [] }, (record { lead = refl; count = refl; ways = (part-char, tt) }, refl))

no_blob : (s : Sig) → Derives Field [] s → ⊥
no_blob s derives = let never : [] ≡ spelled Field s = derives.1 in absurd cc

breaks : (blob front rest : List ℕ) (byte place : ℕ) → 0x06 ∷ blob ≡ front ++ byte ∷ rest → place ≡ length front → (IsViable (IsBlob Field) (front ++ byte ∷ []) → ⊥) → 1 ≤ place
breaks blob [] rest byte place is at stuck =
    let same : 0x06 ∷ blob ≡ byte ∷ rest = is in
    let head : 0x06 ≡ byte = cc in
    absurd (stuck (0x03 ∷ [], subst (λ (b : ℕ). IsBlob Field (b ∷ (0x03 ∷ []))) head some_field))
breaks blob (x ∷ front) rest byte place is at stuck = omega (arith, at)

trails : (blob : List ℕ) (place : ℕ) → IsBlob Field (take place (0x06 ∷ blob)) → 1 ≤ place
trails blob zero is = absurd (no_blob is.0 is.1)
trails blob (suc n) is = omega arith

pub placed : (blob : List ℕ) (fault : SigFault) → IsSigFault (IsBlob Field) (0x06 ∷ blob) fault → IsPlaced fault
placed blob (Truncated place) at = let long : place ≡ length (0x06 ∷ blob) = at.0 in omega (arith, long)
placed blob (BadElement place byte) at = breaks blob at.0.front at.0.rest byte place at.0.is at.0.at at.0.stuck
placed blob (OutOfProfile place byte) at = breaks blob at.0.front at.0.rest byte place at.0.is at.0.at at.0.stuck
placed blob (Trailing place) at = trails blob place at.1
