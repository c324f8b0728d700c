-- What reading a part of a blob answers.
use Rattle.std.specs.Prelude.{◌≡◌, ◌≢◌, ◌⊎◌, ℕ, ◌+◌, ◌^◌, ◌<◌, ◌≤◌, Bool, true, false, List, [], ◌∷◌, ◌++◌, length, drop, map}
use Rattle.std.specs.List.{flat_map}
use Rattle.dc_base.specs.Spelling.{spelling, BeginsWithNumber}
use Rattle.cli_signature.specs.declared.element.Part.{Part}
use Rattle.cli_signature.specs.declared.element.Part.TheVariants.{Void, Plain, ByRef, SzArray, LeftOut as LeftOutPart, Unknown}
use Rattle.cli_signature.specs.declared.kind.Kind.{Kind}
use Rattle.cli_signature.specs.declared.kind.Kind.TheVariants.{Method, Property}
use Rattle.cli_signature.specs.declared.kind.Slot.{Slot}
use Rattle.cli_signature.specs.declared.kind.Slot.TheVariants.{Whole}
use Rattle.cli_signature.specs.declared.raw.RawTy.{RawTy}
use Rattle.cli_signature.specs.declared.raw.SigFault.{SigFault}
use Rattle.cli_signature.specs.declared.raw.SigFault.TheVariants.{Truncated, BadElement, OutOfProfile, Trailing}
use Rattle.cli_signature.specs.Element.{part_of}
use Rattle.cli_signature.specs.Grammar.{Derives, raws, IsLead, first_slot, AreWays, spelled_count, Way, IsReference, TakesRef, TakesVoid, IsWay, spelled_way, raw_of}
use Rattle.cli_signature.specs.Fault.{IsViable}

-- the bytes begin with a word
abbrev pub Begins : (List ℕ → Type 0) → List ℕ → Type 0
Begins W bytes = (word more : List ℕ) × W word × (bytes ≡ word ++ more)

-- this byte is the first, from place `at` on, with which no word goes on
pub record Stops (W : List ℕ → Type 0) (at : ℕ) (bytes : List ℕ) (place : ℕ) (byte : ℕ) : Type 0 where
  pub front : List ℕ
  pub rest : List ℕ
  pub is : bytes ≡ front ++ byte ∷ rest
  pub there : place ≡ at + length front
  pub viable : IsViable W front
  pub stuck : (more : List ℕ) → Begins W (front ++ byte ∷ more) → ⊥

-- some plain element can't stand behind these bytes
abbrev pub IsNotDue : (List ℕ → Type 0) → List ℕ → Type 0
IsNotDue W front = (e : ℕ) × (part_of e ≡ Plain) × ((more : List ℕ) → Begins W (front ++ e ∷ more) → ⊥)

abbrev pub IsDue : (List ℕ → Type 0) → List ℕ → Type 0
IsDue W front = (e : ℕ) → part_of e ≡ Plain → IsViable W (front ++ e ∷ [])

-- why no word stands at `at`, where the blob has these bytes from there on
abbrev pub IsFaultAt : (List ℕ → Type 0) → ℕ → List ℕ → SigFault → Type 0
IsFaultAt W at bytes (Truncated place) = (place ≡ at + length bytes) × ((more : List ℕ) × W (bytes ++ more) × (more ≢ []))
IsFaultAt W at bytes (BadElement place byte) = (s : Stops W at bytes place byte) × (part_of byte ≡ LeftOutPart → IsNotDue W s.front)
IsFaultAt W at bytes (OutOfProfile place byte) = (s : Stops W at bytes place byte) × IsDue W s.front × (part_of byte ≡ LeftOutPart)
IsFaultAt W at bytes (Trailing place) = ⊥

-- from `at` on stands a type that is read so, and ends before `after`
pub record ReadsWay (slot : Slot) (blob : List ℕ) (at : ℕ) (ty : RawTy) (after : ℕ) : Type 0 where
  pub way : Way
  pub stands : IsWay slot way
  pub is : drop at blob ≡ spelled_way way ++ drop after blob
  pub within : after ≤ length blob
  pub read : ty ≡ raw_of way

-- a count, or where one is asked for the number of a type
abbrev pub IsNumber : Bool → ℕ → Type 0
IsNumber true n = IsReference n
IsNumber false n = n < 2 ^ 29

-- the bytes are those of such a number
abbrev pub IsNumberWord : Bool → List ℕ → Type 0
IsNumberWord reference word = (n : ℕ) × IsNumber reference n × (word ≡ spelling n)

-- from `at` on stands this number, and ends before `after`
pub record ReadsNumber (reference : Bool) (blob : List ℕ) (at : ℕ) (n : ℕ) (after : ℕ) : Type 0 where
  pub stands : IsNumber reference n
  pub is : drop at blob ≡ spelling n ++ drop after blob
  pub within : after ≤ length blob

abbrev pub BeginsWithNoSuch : Bool → List ℕ → Type 0
BeginsWithNoSuch reference bytes = (n len : ℕ) → BeginsWithNumber bytes n len → IsNumber reference n → ⊥

-- with the byte at place `k` no such number goes on, or the bytes end before that place
abbrev pub IsNumberStop : Bool → List ℕ → ℕ → Type 0
IsNumberStop reference bytes k =
    ((byte : ℕ) × (s : Stops (IsNumberWord reference) 0 bytes k byte) × (part_of byte ≡ LeftOutPart → IsNotDue (IsNumberWord reference) s.front))
    ⊎ ((length bytes ≤ k) × ((more : List ℕ) × IsNumberWord reference (bytes ++ more) × (more ≢ [])))

-- what the element that begins a type may be where it stands
abbrev pub IsTaken : Slot → Part → Type 0
IsTaken slot Void = TakesVoid slot
IsTaken slot ByRef = TakesRef slot
IsTaken slot LeftOutPart = ⊥
IsTaken slot Unknown = ⊥
IsTaken slot _ = Unit {0}

abbrev pub IsMarkPart : Slot → Part → Type 0
IsMarkPart slot SzArray = Unit {0}
IsMarkPart slot ByRef = TakesRef slot
IsMarkPart slot _ = ⊥

-- a type begins with this byte and goes on with another
abbrev pub IsMark : Slot → ℕ → Type 0
IsMark slot byte = IsMarkPart slot (part_of byte)

-- from this byte on, but for those below 80, none begins such a number
abbrev pub top_of : Bool → ℕ
top_of true = 0xC4
top_of false = 0xE0

-- the blob begins with this lead byte
pub record ReadsLead (kind : Kind) (blob : List ℕ) (byte : ℕ) : Type 0 where
  pub lead : IsLead kind byte
  pub is : blob ≡ byte ∷ drop 1 blob

-- where the type behind these stands
abbrev pub slot_behind : Slot → List Way → Slot
slot_behind slot [] = slot
slot_behind slot (w ∷ ws) = Whole

-- the bytes of a signature with `n` types up to some of them
abbrev pub begun : Kind → ℕ → ℕ → List Way → List ℕ
begun kind lead n ts = lead ∷ (spelled_count kind n ++ flat_map spelled_way ts)

-- before `at` stands a signature with `n` types up to those that are read so, and the next stands in this slot
pub record Reached (kind : Kind) (lead n : ℕ) (blob : List ℕ) (at : ℕ) (slot : Slot) (tys : List RawTy) : Type 0 where
  pub ts : List Way
  pub stand : AreWays (first_slot kind) ts
  pub slot_is : slot ≡ slot_behind (first_slot kind) ts
  pub is : blob ≡ begun kind lead n ts ++ drop at blob
  pub there : at ≡ length (begun kind lead n ts)
  pub within : at ≤ length blob
  pub read : tys ≡ map raw_of ts

-- the blob is a signature with this lead byte, whose types are read so
pub record Done (kind : Kind) (lead : ℕ) (blob : List ℕ) (tys : List RawTy) : Type 0 where
  pub types : List Way
  pub derives : Derives kind blob (record { lead = lead; types = types })
  pub read : raws (record { lead = lead; types = types }) ≡ tys

-- how many types the count leaves out
abbrev pub results_of : Kind → ℕ
results_of Method = 1
results_of Property = 1
results_of _ = 0
