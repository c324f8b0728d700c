-- The tokens that the types of signatures name (ECMA-335 II.23.1.16, II.23.2).
use Rattle.std.specs.Prelude.{ℕ, ◌==◌, ◌||◌, List, [], ◌∷◌, Option, Some, None, cond}
use Rattle.std.specs.List.{filter_map}
use Rattle.dc_base.specs.declared.names.Token.{Token}
use Rattle.cli_metadata.specs.declared.fault.MetaFault.{MetaFault}
use Rattle.cli_metadata.specs.Metadata.{Contents, IsItem, IsNoItem, IsFaultAt}
use Rattle.cli_signature.specs.declared.kind.Kind.{Kind}
use Rattle.cli_signature.specs.declared.raw.RawTy.{RawTy}
use Rattle.cli_signature.specs.declared.raw.SigFault.{SigFault}
use Rattle.cli_signature.specs.Grammar.{Sig, Derives, IsBlob, raws}
use Rattle.cli_signature.specs.Fault.{IsSigFault}
use Rattle.cli_sig_tokens.specs.Spec.{IsSpec}

-- CLASS and VALUETYPE stand before the token of a type
abbrev pub token_of : RawTy → Option Token
token_of ty = cond (ty.element == 0x12 || ty.element == 0x11) (Some ty.token) None

abbrev pub tokens_of : List RawTy → List Token
tokens_of types = filter_map token_of types

-- what the types of the signature of this kind name that stands at a place of the heap of blobs; what isn't there or is no such
-- signature names none
pub data AreTokens (m : Contents) (kind : Kind) (i : ℕ) : List Token → Type 0 where
  says : (blob : List ℕ) (s : Sig) → IsItem m.blobs i blob → Derives kind blob s → AreTokens m kind i (tokens_of (raws s))
  no_signature : (blob : List ℕ) (fault : SigFault) → IsItem m.blobs i blob → IsSigFault (IsBlob kind) blob fault → AreTokens m kind i []
  no_blob : (fault : MetaFault) → IsFaultAt (IsNoItem m.blobs i) i fault → AreTokens m kind i []

-- what the type by itself names that stands there
pub data AreSpecTokens (m : Contents) (i : ℕ) : List Token → Type 0 where
  is_type : (blob : List ℕ) (ty : RawTy) → IsItem m.blobs i blob → IsSpec blob ty → AreSpecTokens m i (tokens_of (ty ∷ []))
  no_type : (blob : List ℕ) → IsItem m.blobs i blob → ((ty : RawTy) → IsSpec blob ty → ⊥) → AreSpecTokens m i []
  nowhere : (fault : MetaFault) → IsFaultAt (IsNoItem m.blobs i) i fault → AreSpecTokens m i []
