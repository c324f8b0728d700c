-- The types that the signatures of members say (ECMA-335 II.23.2.1, II.23.2.4).
use Rattle.std.specs.Prelude.{◌≡◌, ℕ, Bool, true, false, List, [], ◌∷◌, map, unwrap_or}
use Rattle.dc_base.specs.declared.ty.Ty.{Ty}
use Rattle.dc_base.specs.declared.ty.Core.TheVariants.{Void, Class}
use Rattle.class_rows.specs.declared.row.Param.{Param}
use Rattle.class_rows.specs.declared.row.Way.{Way}
use Rattle.class_rows.specs.declared.row.Way.TheVariants.{ByValue, Ref}
use Rattle.cli_metadata.specs.declared.fault.MetaFault.{MetaFault}
use Rattle.cli_metadata.specs.Metadata.{Contents, IsItem, IsNoItem, IsFaultAt}
use Rattle.cli_signature.specs.declared.raw.RawTy.{RawTy}
use Rattle.cli_signature.specs.declared.raw.MethodSig.{MethodSig}
use Rattle.cli_signature.specs.declared.raw.SigFault.{SigFault}
use Rattle.cli_signature.specs.declared.kind.Kind.TheVariants as sig_kind
use Rattle.cli_signature.specs.Grammar.{IsFieldSig, IsMethodSig, IsBlob}
use Rattle.cli_signature.specs.Fault.{IsSigFault}
use Rattle.cli_types.specs.declared.types.Types.{Types}
use Rattle.cli_types.specs.Said.{type_said}
use Rattle.cli_member_rows.specs.declared.sigs.MethodTypes.{MethodTypes}

-- a type that names nothing
abbrev pub nothing_type : Ty
nothing_type = record { core = Class (record { 0 = 0xFFFFFFFF }); arrays = 0; lent = false }

-- the type that stands in a signature so, or one that names nothing
abbrev pub said : Types → RawTy → Ty
said types raw = unwrap_or (type_said types raw) nothing_type

-- ---- fields

-- the type that the signature of a field says; one that isn't there, or is none, says a type that names nothing
pub data IsFieldType (m : Contents) (types : Types) (signature : ℕ) : Ty → Type 0 where
  says : (blob : List ℕ) (raw : RawTy) → IsItem m.blobs signature blob → IsFieldSig blob raw → IsFieldType m types signature (said types raw)
  no_signature : (blob : List ℕ) (fault : SigFault) → IsItem m.blobs signature blob → IsSigFault (IsBlob sig_kind.Field) blob fault → IsFieldType m types signature nothing_type
  no_blob : (fault : MetaFault) → IsFaultAt (IsNoItem m.blobs signature) signature fault → IsFieldType m types signature nothing_type

-- ---- methods

-- what is lent is handed over by `ref`; an `out` of an own method is one
abbrev pub way_of : Bool → Way
way_of true = Ref
way_of false = ByValue

abbrev pub param_of : Ty → Param
param_of ty = record { ty = ty; way = way_of ty.lent }

abbrev pub params_of : Types → List RawTy → List Param
params_of types raws = map (λ raw. param_of (said types raw)) raws

-- those of a method whose signature isn't there, or is none
abbrev pub no_types : MethodTypes
no_types = record { instance = false; params = []; result = nothing_type }

-- The signature of a constructor of a delegate (II.14.6): an instance method without a result, of an object and a native
-- integer.
abbrev pub delegate_sig : List ℕ
delegate_sig = 0x20 ∷ 0x02 ∷ 0x01 ∷ 0x1C ∷ 0x18 ∷ []

-- it stands for one of the object alone
abbrev pub delegate_types : Types → MethodTypes
delegate_types types = record {
  instance = true;
  params = param_of (record { core = Class types.object; arrays = 0; lent = false }) ∷ [];
  result = record { core = Void; arrays = 0; lent = false };
}

-- those that a signature says
abbrev pub types_in : Types → MethodSig → MethodTypes
types_in types sig = record { instance = sig.instance; params = params_of types sig.params; result = said types sig.result }

-- the types of a method with this blob
pub data AreRead (types : Types) (blob : List ℕ) : MethodTypes → Type 0 where
  reads : (sig : MethodSig) → IsMethodSig sig_kind.Method blob sig → AreRead types blob (types_in types sig)
  no_method : (fault : SigFault) → IsSigFault (IsBlob sig_kind.Method) blob fault → AreRead types blob no_types

-- a constructor of a delegate that has the usual signature
pub record IsUsual (may_be_usual : Bool) (blob : List ℕ) : Type 0 where
  pub may : may_be_usual ≡ true
  pub is : blob ≡ delegate_sig

-- the types of a method with this signature, where it may be the usual one of a constructor of a delegate
pub data AreMethodTypes (m : Contents) (types : Types) (signature : ℕ) (may_be_usual : Bool) : MethodTypes → Type 0 where
  usual : (blob : List ℕ) → IsItem m.blobs signature blob → IsUsual may_be_usual blob → AreMethodTypes m types signature may_be_usual (delegate_types types)
  other : (blob : List ℕ) (read : MethodTypes) → IsItem m.blobs signature blob → (IsUsual may_be_usual blob → ⊥) → AreRead types blob read → AreMethodTypes m types signature may_be_usual read
  none : (fault : MetaFault) → IsFaultAt (IsNoItem m.blobs signature) signature fault → AreMethodTypes m types signature may_be_usual no_types
