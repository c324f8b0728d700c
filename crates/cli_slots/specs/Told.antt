-- Inner facts: what is told of members, one by one.
use Rattle.std.specs.Prelude.{◌≡◌, ◌≢◌, ℕ, ◌-◌, ◌<◌, ◌≤◌, List, Bool, true, false, Some, length, slice_get}
use Rattle.class_rows.specs.declared.row.MemberRow.{MemberRow}
use Rattle.class_rows.specs.declared.row.Virt.{Virt}
use Rattle.class_rows.specs.declared.row.Virt.TheVariants.{Plain}
use Rattle.class_rows.specs.Members.{IsOf, IsNameless}
use Rattle.class_open.specs.Trail.{Has, FirstIn, IsAlikeTo}
use Rattle.cli_flags.specs.Flags.{virt_of}
use Rattle.cli_slots.specs.declared.known.Known.{Known}
use Rattle.cli_slots.specs.declared.told.Told.{Told}
use Rattle.cli_slots.specs.declared.told.Word.{Word}
use Rattle.cli_slots.specs.Settled.{Overrides, Tells}
use Rattle.cli_slots.specs.Known.{with_virts}

-- whether a member overrides one: by the members that stand open, and by all rows
abbrev pub ByOpen : Known → List ℕ → MemberRow → Bool → Type 0
ByOpen known trail row true = (n : ℕ) × FirstIn (IsAlikeTo known.types.now known.members.now row) trail n
ByOpen known trail row false = (n : ℕ) → Has trail n → IsAlikeTo known.types.now known.members.now row n → ⊥

abbrev pub ByRows : Known → List Virt → MemberRow → Bool → Type 0
ByRows known virts row overrides = Tells overrides (Overrides known.types.now (with_virts known.members.now virts) known.explicit.now row)

-- what a member does with slots, where `Over` tells whether it overrides one
pub data IsVirtBy (known : Known) (Over : MemberRow → Bool → Type 0) (m : ℕ) (row : MemberRow) : Virt → Type 0 where
  of_reference : m < known.own_from → IsVirtBy known Over m row row.virt
  of_own : (flags : ℕ) (overrides : Bool) → known.own_from ≤ m → slice_get known.flags.now (m - known.own_from) ≡ Some flags → Over row overrides → IsVirtBy known Over m row (virt_of flags overrides)

-- a virtual instance method with a name
abbrev pub IsVirtual : Known → ℕ → MemberRow → Virt → Type 0
IsVirtual known m row virt =
    (virt ≢ Plain) × (row.is_static ≡ false) × (IsNameless known.types.now known.members.now known.explicit.now m → ⊥)

-- so it is told of a member
pub record IsWord (known : Known) (Over : MemberRow → Bool → Type 0) (m : ℕ) (word : Word) : Type 0 where
  pub row : MemberRow
  pub stands : slice_get known.members.now m ≡ Some row
  pub by_ : IsVirtBy known Over m row word.virt
  pub tells : Tells word.pick (IsVirtual known m row word.virt)

-- and it stands there
pub record IsTold (known : Known) (Over : MemberRow → Bool → Type 0) (virts : List Virt) (picks : List Bool) (m : ℕ) : Type 0 where
  pub word : Word
  pub put : slice_get virts m ≡ Some word.virt
  pub flagged : slice_get picks m ≡ Some word.pick
  pub is : IsWord known Over m word

-- for each member something is told
pub record AreLong (known : Known) (told : Told) : Type 0 where
  pub virts : length told.virts.items ≡ length known.members.now
  pub picks : length told.picks.items ≡ length known.members.now

-- what is told of a member stays
abbrev pub IsKept : Told → Told → ℕ → Type 0
IsKept before after n =
    (slice_get after.virts.items n ≡ slice_get before.virts.items n) × (slice_get after.picks.items n ≡ slice_get before.picks.items n)

-- all those of a type are told
pub record AreWritten (known : Known) (trail : List ℕ) (before after : Told) (t : ℕ) : Type 0 where
  pub long : AreLong known after
  pub own : (m : ℕ) → IsOf known.members.now t m → IsTold known (ByOpen known trail) after.virts.items after.picks.items m
  pub kept : (n : ℕ) → (IsOf known.members.now t n → ⊥) → IsKept before after n
