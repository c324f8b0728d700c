-- Inner facts: marks of methods that a type on the way implements explicitly.
use Rattle.std.specs.Prelude.{◌≡◌, ◌⊎◌, ℕ, ◌<◌, List, [], ◌∷◌, Bool, true, Option, Some, length, slice_get}
use Rattle.dc_base.specs.declared.names.MemberId.{MemberId}
use Rattle.class_rows.specs.declared.row.MemberRow.{MemberRow}
use Rattle.class_open.specs.Trail.{Has}
use Rattle.class_implemented.specs.declared.known.Known.{Known}
use Rattle.class_implemented.specs.Explicit.{IsPairOf}

-- the mark of a method is a type that is flagged
abbrev pub IsMarked : List Bool → List (Option ℕ) → ℕ → Type 0
IsMarked flags marks m = (u : ℕ) × (slice_get marks m ≡ Some (Some u)) × (slice_get flags u ≡ Some true)

-- a method is marked with t, or with another type that is flagged
pub record IsMarkedOne (flags : List Bool) (t m : ℕ) (before after : List (Option ℕ)) : Type 0 where
  pub long : length after ≡ length before
  pub kept : (n u : ℕ) → slice_get before n ≡ Some (Some u) → slice_get flags u ≡ Some true → slice_get after n ≡ Some (Some u)
  pub from_ : (n u : ℕ) → slice_get after n ≡ Some (Some u) → (slice_get before n ≡ Some (Some u)) ⊎ ((n ≡ m) × (u ≡ t))
  pub has : m < length before → IsMarked flags after m

-- the same of all methods that t implements explicitly
pub record AreMarkedMore (known : Known) (flags : List Bool) (t : ℕ) (before after : List (Option ℕ)) : Type 0 where
  pub long : length after ≡ length before
  pub kept : (n u : ℕ) → slice_get before n ≡ Some (Some u) → slice_get flags u ≡ Some true → slice_get after n ≡ Some (Some u)
  pub from_ : (n u : ℕ) → slice_get after n ≡ Some (Some u) → (slice_get before n ≡ Some (Some u)) ⊎ ((u ≡ t) × (t < length known.types.now) × IsPairOf known.members.now known.explicit.now t n)
  pub has : t < length known.types.now → (n : ℕ) → n < length before → IsPairOf known.members.now known.explicit.now t n → IsMarked flags after n

-- the mark of a method is a type of the path
abbrev pub IsGood : List (Option ℕ) → List ℕ → ℕ → Type 0
IsGood marks path m = (u : ℕ) × (slice_get marks m ≡ Some (Some u)) × Has path u

-- what a type of the path implements explicitly has as its mark that type, or one further out
abbrev pub AreMarks : List MemberRow → List (MemberId × MemberId) → ℕ → List (Option ℕ) → List ℕ → Type 0
AreMarks members explicit count marks [] = Unit {0}
AreMarks members explicit count marks (t ∷ path) =
    ((m : ℕ) → t < count → m < length marks → IsPairOf members explicit t m → IsGood marks (t ∷ path) m) × AreMarks members explicit count marks path
