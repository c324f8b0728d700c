-- What was collected from the types of a signature.
use Rattle.std.proofs.Common.{◌≡◌, ◌∙◌, ℕ, List, [], ◌∷◌, sym, ap, subst}
use Rattle.dc_base.specs.declared.names.Token.{Token}
use Rattle.cli_metadata.specs.declared.fault.MetaFault.{MetaFault}
use Rattle.cli_metadata.specs.Metadata.{Contents, IsItem, IsNoItem, IsFaultAt}
use Rattle.cli_signature.specs.declared.kind.Kind.{Kind}
use Rattle.cli_signature.specs.declared.raw.RawTy.{RawTy}
use Rattle.cli_signature.specs.declared.raw.SigFault.{SigFault}
use Rattle.cli_signature.specs.Grammar.{Sig, Derives, IsBlob, raws}
use Rattle.cli_signature.specs.Fault.{IsSigFault}
use Rattle.cli_sig_tokens.specs.Spec.{IsSpec}
use Rattle.cli_sig_tokens.specs.Tokens.{tokens_of, AreTokens, says, no_signature, no_blob, AreSpecTokens, is_type, no_type, nowhere}

-- the blob has a derivation whose types are read so
abbrev pub Reads : Kind → List ℕ → List RawTy → Type 0
Reads kind blob types = (s : Sig) × Derives kind blob s × (raws s ≡ types)

pub said : (m : Contents) (kind : Kind) (i : ℕ) (blob : List ℕ) (types : List RawTy) (found : List Token) → IsItem m.blobs i blob → Reads kind blob types → found ≡ tokens_of types → AreTokens m kind i found
said m kind i blob types found stands reads is =
    subst (λ (xs : List Token). AreTokens m kind i xs) (ap tokens_of reads.2 ∙ sym is) (says blob reads.0 stands reads.1)

pub said_none : (m : Contents) (kind : Kind) (i : ℕ) (blob : List ℕ) (fault : SigFault) (found : List Token) → IsItem m.blobs i blob → IsSigFault (IsBlob kind) blob fault → found ≡ [] → AreTokens m kind i found
said_none m kind i blob fault found stands at is = subst (λ (xs : List Token). AreTokens m kind i xs) (sym is) (no_signature blob fault stands at)

pub said_nowhere : (m : Contents) (kind : Kind) (i : ℕ) (fault : MetaFault) (found : List Token) → IsFaultAt (IsNoItem m.blobs i) i fault → found ≡ [] → AreTokens m kind i found
said_nowhere m kind i fault found at is = subst (λ (xs : List Token). AreTokens m kind i xs) (sym is) (no_blob fault at)

pub is_spec : (m : Contents) (i : ℕ) (blob : List ℕ) (ty : RawTy) (found : List Token) → IsItem m.blobs i blob → IsSpec blob ty → found ≡ tokens_of (ty ∷ []) → AreSpecTokens m i found
is_spec m i blob ty found stands at is = subst (λ (xs : List Token). AreSpecTokens m i xs) (sym is) (is_type blob ty stands at)

pub no_spec : (m : Contents) (i : ℕ) (blob : List ℕ) (found : List Token) → IsItem m.blobs i blob → ((ty : RawTy) → IsSpec blob ty → ⊥) → found ≡ [] → AreSpecTokens m i found
no_spec m i blob found stands none is = subst (λ (xs : List Token). AreSpecTokens m i xs) (sym is) (no_type blob stands none)

pub spec_nowhere : (m : Contents) (i : ℕ) (fault : MetaFault) (found : List Token) → IsFaultAt (IsNoItem m.blobs i) i fault → found ≡ [] → AreSpecTokens m i found
spec_nowhere m i fault found at is = subst (λ (xs : List Token). AreSpecTokens m i xs) (sym is) (nowhere fault at)
