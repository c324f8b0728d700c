-- Inner facts: which methods have no implementer.
use Rattle.std.specs.Prelude.{◌≡◌, ◌≢◌, ◌⊎◌, ℕ, List, Option, Some, Bool, true, false, slice_get, Contains}
use Rattle.class_rows.specs.declared.row.MemberRow.{MemberRow}
use Rattle.class_rows.specs.declared.row.Access.TheVariants.{Public}
use Rattle.class_rows.specs.declared.row.Sort.TheVariants.{Field as FieldSort}
use Rattle.class_rows.specs.Types.{InBaseChain, NamesInterface}
use Rattle.class_rows.specs.Members.{HasMember, IsOf, sort_of}
use Rattle.class_rows.specs.Implemented.{AreAlike, IsUnimplemented}
use Rattle.class_implemented.specs.declared.known.Known.{Known}

-- the type t itself has a member that implements m
pub record HasImplementer (known : Known) (t m : ℕ) : Type 0 where
  pub x : ℕ
  pub row : MemberRow
  pub stands : slice_get known.members.now x ≡ Some row
  pub owned : row.owner ≡ record { 0 = t }
  pub implements : Contains known.explicit.now (record { 0 = x }, record { 0 = m })
      ⊎ ((row.access ≡ Public) × (row.is_static ≡ false) × HasMember known.members.now m (λ due. AreAlike known.types.now row due))

-- a type in the base chain of t has one
abbrev pub IsDone : Known → ℕ → ℕ → Type 0
IsDone known t m = (b : ℕ) × InBaseChain known.types.now t b × HasImplementer known b m

abbrev pub IsMethod : MemberRow → Type 0
IsMethod row = (sort_of row.kind ≢ FieldSort) × (row.is_static ≡ false)

-- m is a method, and none implements it for c
abbrev pub IsOpen : Known → ℕ → ℕ → Type 0
IsOpen known c m = HasMember known.members.now m IsMethod × (IsDone known c m → ⊥)

-- it is a method of the interface i
abbrev pub IsOpenIn : Known → ℕ → ℕ → ℕ → Type 0
IsOpenIn known c i m = IsOf known.members.now i m × IsOpen known c m

-- of one of these interfaces
abbrev pub IsOpenAmong : Known → ℕ → List ℕ → ℕ → Type 0
IsOpenAmong known c interfaces m = (k : ℕ) × (i : ℕ) × (slice_get interfaces k ≡ Some i) × IsOpenIn known c i m

-- of an interface that d names in turn
abbrev pub IsOpenFrom : Known → ℕ → ℕ → ℕ → Type 0
IsOpenFrom known c d m = (i : ℕ) × NamesInterface known.types.now d i × IsOpenIn known c i m

-- d or a base of it names the interface
abbrev pub IsOpenAbove : Known → ℕ → ℕ → ℕ → Type 0
IsOpenAbove known c d m = (b : ℕ) × InBaseChain known.types.now d b × IsOpenFrom known c b m

-- nothing is open for c of what t names in turn, nor of t as an interface
abbrev pub IsPassed : Known → ℕ → ℕ → Type 0
IsPassed known c t = (m : ℕ) → IsOpenIn known c t m ⊎ IsOpenFrom known c t m → ⊥

-- this is so of each type and the class that is its mark
abbrev pub ArePassed : Known → List (Option ℕ) → Type 0
ArePassed known passed = (t c : ℕ) → slice_get passed t ≡ Some (Some c) → IsPassed known c t

-- each mark is an older one, or is c at one of these interfaces
abbrev pub IsMarkedWith : List (Option ℕ) → List (Option ℕ) → List ℕ → ℕ → Type 0
IsMarkedWith before after interfaces c =
    (t x : ℕ) → slice_get after t ≡ Some (Some x)
    → ((x ≡ c) × ((k : ℕ) × (slice_get interfaces k ≡ Some t))) ⊎ (slice_get before t ≡ Some (Some x))

-- m is unimplemented in c, a class
abbrev pub IsMissing : Known → ℕ → ℕ → Type 0
IsMissing known c m = IsUnimplemented known.types.now known.members.now known.explicit.now c m

-- whatever is marked so has no such method
abbrev pub AreClean : Known → List Bool → Type 0
AreClean known clean = (t : ℕ) → slice_get clean t ≡ Some true → (m : ℕ) → IsMissing known t m → ⊥
