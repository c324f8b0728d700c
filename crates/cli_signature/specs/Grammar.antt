-- The grammar of signatures (ECMA-335 II.23.2): their trees, and the bytes of each.
use Rattle.std.specs.Prelude.{◌≡◌, ◌≢◌, ◌⊎◌, ℕ, ◌+◌, ◌-◌, ◌*◌, ◌/◌, ◌%◌, ◌^◌, ◌<◌, ◌≤◌, true, false, List, [], ◌∷◌, ◌++◌, length, map, min, ◌==◌, if◌then◌else◌}
use Rattle.std.specs.List.{flat_map}
use Rattle.dc_base.specs.Spelling.{spelling}
use Rattle.cli_signature.specs.declared.element.Part.TheVariants.{Plain as PlainPart, Named as NamedPart}
use Rattle.cli_signature.specs.declared.kind.Kind.{Kind}
use Rattle.cli_signature.specs.declared.kind.Kind.TheVariants.{Field, Locals, Method, Property}
use Rattle.cli_signature.specs.declared.kind.Slot.{Slot}
use Rattle.cli_signature.specs.declared.kind.Slot.TheVariants.{Outcome, Whole, Behind}
use Rattle.cli_signature.specs.declared.raw.RawTy.{RawTy}
use Rattle.cli_signature.specs.declared.raw.MethodSig.{MethodSig}
use Rattle.cli_signature.specs.Element.{part_of}

-- a type but for BYREF: an element, CLASS or VALUETYPE with the number of a type, or an array
pub data Shape : Type 0 where
  Plain : ℕ → Shape
  Named : ℕ → ℕ → Shape
  Array : Shape → Shape

-- a type that stands in a signature: as it is, behind BYREF, or VOID
pub data Way : Type 0 where
  Bare : Shape → Way
  Lent : Shape → Way
  Void : Way

-- A number names a type (II.23.2.8): its low two bits say TypeDef, TypeRef or TypeSpec, and above them is a row
-- below 2 ^ 24.
abbrev pub IsReference : ℕ → Type 0
IsReference n = (n < 2 ^ 26) × (n % 4 ≢ 3)

abbrev pub IsShape : Shape → Type 0
IsShape (Plain element) = part_of element ≡ PlainPart
IsShape (Named element n) = (part_of element ≡ NamedPart) × IsReference n
IsShape (Array of) = IsShape of

abbrev pub TakesRef : Slot → Type 0
TakesRef Behind = ⊥
TakesRef _ = Unit {0}

abbrev pub TakesVoid : Slot → Type 0
TakesVoid Outcome = Unit {0}
TakesVoid _ = ⊥

-- the type may stand here: BYREF not behind another mark, and VOID only as a whole result
abbrev pub IsWay : Slot → Way → Type 0
IsWay slot (Bare shape) = IsShape shape
IsWay slot (Lent shape) = TakesRef slot × IsShape shape
IsWay slot Void = TakesVoid slot

abbrev pub spelled_shape : Shape → List ℕ
spelled_shape (Plain element) = element ∷ []
spelled_shape (Named element n) = element ∷ spelling n
spelled_shape (Array of) = 0x1D ∷ spelled_shape of

abbrev pub spelled_way : Way → List ℕ
spelled_way (Bare shape) = spelled_shape shape
spelled_way (Lent shape) = 0x10 ∷ spelled_shape shape
spelled_way Void = 0x01 ∷ []

-- the bytes are those of a type that may stand here
abbrev pub IsWayWord : Slot → List ℕ → Type 0
IsWayWord slot word = (way : Way) × IsWay slot way × (word ≡ spelled_way way)

-- the token of a number that names a type
abbrev pub table_of : ℕ → ℕ
table_of tag = if tag == 0 then 0x02 else (if tag == 1 then 0x01 else 0x1B)

abbrev pub token_of : ℕ → ℕ
token_of n = table_of (n % 4) * 2 ^ 24 + n / 4

-- what a type is read as
abbrev pub raw_of_shape : Shape → RawTy
raw_of_shape (Plain element) = record { element = element; token = record { 0 = 0 }; arrays = 0; lent = false }
raw_of_shape (Named element n) = record { element = element; token = record { 0 = token_of n }; arrays = 0; lent = false }
raw_of_shape (Array of) = record (raw_of_shape of) { arrays = min ((raw_of_shape of).arrays + 1) 255 }

abbrev pub raw_of : Way → RawTy
raw_of (Bare shape) = raw_of_shape shape
raw_of (Lent shape) = record (raw_of_shape shape) { lent = true }
raw_of Void = record { element = 0x01; token = record { 0 = 0 }; arrays = 0; lent = false }

-- a signature: its lead byte, and its types, a result first
pub record Sig : Type 0 where
  pub lead : ℕ
  pub types : List Way

-- the lead byte says which kind of signature it is, and 20 that there is an instance
abbrev pub IsLead : Kind → ℕ → Type 0
IsLead Field lead = lead ≡ 0x06
IsLead Locals lead = lead ≡ 0x07
IsLead Method lead = (lead ≡ 0x00) ⊎ (lead ≡ 0x20)
IsLead Property lead = (lead ≡ 0x08) ⊎ (lead ≡ 0x28)

-- a signature may have as many types
abbrev pub IsCount : Kind → ℕ → Type 0
IsCount Field n = n ≡ 1
IsCount Locals n = n < 2 ^ 29
IsCount Method n = (1 ≤ n) × (n ≤ 2 ^ 29)
IsCount Property n = (1 ≤ n) × (n ≤ 2 ^ 29)

-- where the first type stands
abbrev pub first_slot : Kind → Slot
first_slot Method = Outcome
first_slot _ = Whole

abbrev pub AreWays : Slot → List Way → Type 0
AreWays slot [] = Unit {0}
AreWays slot (way ∷ types) = IsWay slot way × AreWays Whole types

pub record IsSig (kind : Kind) (s : Sig) : Type 0 where
  pub lead : IsLead kind s.lead
  pub count : IsCount kind (length s.types)
  pub ways : AreWays (first_slot kind) s.types

-- what stands between the lead byte and so many types: the count, of which a result is no part
abbrev pub spelled_count : Kind → ℕ → List ℕ
spelled_count Field n = []
spelled_count Locals n = spelling n
spelled_count Method n = spelling (n - 1)
spelled_count Property n = spelling (n - 1)

abbrev pub spelled : Kind → Sig → List ℕ
spelled kind s = s.lead ∷ (spelled_count kind (length s.types) ++ flat_map spelled_way s.types)

-- the blob is a signature of this kind, with this derivation
abbrev pub Derives : Kind → List ℕ → Sig → Type 0
Derives kind blob s = IsSig kind s × (blob ≡ spelled kind s)

abbrev pub IsBlob : Kind → List ℕ → Type 0
IsBlob kind blob = (s : Sig) × Derives kind blob s

-- what the types are read as
abbrev pub raws : Sig → List RawTy
raws s = map raw_of s.types

-- the blob is the signature of a field of this type
abbrev pub IsFieldSig : List ℕ → RawTy → Type 0
IsFieldSig blob ty = (s : Sig) × Derives Field blob s × (raws s ≡ ty ∷ [])

-- the blob is the signature of these locals
abbrev pub IsLocalSig : List ℕ → List RawTy → Type 0
IsLocalSig blob types = (s : Sig) × Derives Locals blob s × (raws s ≡ types)

-- The blob is this signature, of a method or a property: the bit 20 of its lead byte says whether it is called on an
-- instance.
abbrev pub IsMethodSig : Kind → List ℕ → MethodSig → Type 0
IsMethodSig kind blob m =
    (s : Sig) × Derives kind blob s × (raws s ≡ m.result ∷ m.params) × (m.instance ≡ (s.lead / 0x20 % 2 == 1))
