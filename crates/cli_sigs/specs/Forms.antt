-- What is wrong with the signature of a row (ECMA-335 II.23.2).
use Rattle.std.specs.Prelude.{◌≡◌, ◌≢◌, ℕ, ◌+◌, ◌≤◌, ◌==◌, List, [], ◌∷◌, Option, Some, None, cond}
use Rattle.cli_metadata.specs.Metadata.{Contents, IsItem, IsNoItem, IsFaultAt}
use Rattle.cli_signature.specs.declared.kind.Kind.{Kind}
use Rattle.cli_signature.specs.declared.kind.Kind.TheVariants as kinds
use Rattle.cli_signature.specs.declared.raw.SigFault.{SigFault}
use Rattle.cli_signature.specs.declared.raw.SigFault.TheVariants.{Truncated, BadElement, OutOfProfile, Trailing}
use Rattle.cli_signature.specs.Grammar.{IsBlob}
use Rattle.cli_signature.specs.Fault.{IsSigFault}
use Rattle.cli_sigs.specs.declared.form.Form.{Form}
use Rattle.cli_sigs.specs.declared.form.Form.TheVariants.{Field, Method, Constructor, Member, NamedConstructor, Locals, Property, Type_}
use Rattle.cli_sigs.specs.declared.refusal.SigCause.{SigCause}
use Rattle.cli_sigs.specs.declared.refusal.SigCause.TheVariants.{Meta, Sig}

-- the signature of a reference to a member is that of a field where it begins with byte 06, and else that of a method (II.22.25)
abbrev pub member_kind : List ℕ → Kind
member_kind [] = kinds.Method
member_kind (byte ∷ rest) = cond (byte == 0x06) kinds.Field kinds.Method

-- of an instance, with two parameters, void, of an object and a native int: the constructor of a delegate (II.14.6)
abbrev pub delegate_constructor : List ℕ
delegate_constructor = 0x20 ∷ 0x02 ∷ 0x01 ∷ 0x1C ∷ 0x18 ∷ []

-- the same fault one byte later
abbrev pub one_later : SigFault → SigFault
one_later (Truncated place) = Truncated (place + 1)
one_later (BadElement place byte) = BadElement (place + 1) byte
one_later (OutOfProfile place byte) = OutOfProfile (place + 1) byte
one_later (Trailing place) = Trailing (place + 1)

-- the blob begins with BYREF
abbrev pub BeginsLent : List ℕ → Type 0
BeginsLent blob = (rest : List ℕ) × (blob ≡ 0x10 ∷ rest)

-- Why a blob is no type by itself (II.23.2.14): BYREF can't begin one, and any other fault is that which it has as the type of a
-- field, whose signature has one byte before it.
pub data IsTypeFault (blob : List ℕ) (fault : SigFault) : Type 0 where
  lent : BeginsLent blob → fault ≡ BadElement 0 0x10 → IsTypeFault blob fault
  as_field : (BeginsLent blob → ⊥) → IsSigFault (IsBlob kinds.Field) (0x06 ∷ blob) (one_later fault) → IsTypeFault blob fault

-- why a blob is no signature of a form; that of a constructor of a delegate isn't read where it is the usual one
abbrev pub IsFault : Form → List ℕ → SigFault → Type 0
IsFault Field blob fault = IsSigFault (IsBlob kinds.Field) blob fault
IsFault Method blob fault = IsSigFault (IsBlob kinds.Method) blob fault
IsFault Constructor blob fault = (blob ≢ delegate_constructor) × IsSigFault (IsBlob kinds.Method) blob fault
IsFault Member blob fault = IsSigFault (IsBlob (member_kind blob)) blob fault
IsFault NamedConstructor blob fault = (blob ≢ delegate_constructor) × IsSigFault (IsBlob (member_kind blob)) blob fault
IsFault Locals blob fault = IsSigFault (IsBlob kinds.Locals) blob fault
IsFault Property blob fault = IsSigFault (IsBlob kinds.Property) blob fault
IsFault Type_ blob fault = IsTypeFault blob fault

-- why no signature of a form stands at a place of the heap of blobs: no blob does, or one that is no such signature
abbrev pub IsCause : Contents → Form → ℕ → SigCause → Type 0
IsCause m form i (Meta fault) = IsFaultAt (IsNoItem m.blobs i) i fault
IsCause m form i (Sig fault) = (blob : List ℕ) × IsItem m.blobs i blob × IsFault form blob fault

-- this is so, or where there is none nothing is
abbrev pub IsThe : {F : Type 0} → (F → Type 0) → Option F → Type 0
IsThe {F} Is None = (fault : F) → Is fault → ⊥
IsThe Is (Some fault) = Is fault

-- ---- inner facts

-- the fault isn't at the first byte
abbrev pub IsPlaced : SigFault → Type 0
IsPlaced (Truncated place) = 1 ≤ place
IsPlaced (BadElement place byte) = 1 ≤ place
IsPlaced (OutOfProfile place byte) = 1 ≤ place
IsPlaced (Trailing place) = 1 ≤ place
