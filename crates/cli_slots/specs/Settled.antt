-- Which methods take over a slot (ECMA-335 II.10.3): a virtual method that doesn't say that it has a new slot overrides the
-- nearest virtual method like it in a base of its type. Where there is none, it has a slot of its own as well.
use Rattle.std.specs.Prelude.{◌≡◌, ℕ, ◌+◌, ◌<◌, List, Bool, true, false, Some, length, slice_get}
use Rattle.dc_base.specs.declared.names.MemberId.{MemberId}
use Rattle.class_rows.specs.declared.row.TypeRow.{TypeRow}
use Rattle.class_rows.specs.declared.row.MemberRow.{MemberRow}
use Rattle.class_rows.specs.declared.row.Virt.{Virt}
use Rattle.class_rows.specs.Types.{IsBase}
use Rattle.class_rows.specs.Lookups.{IsNearest}
use Rattle.cli_flags.specs.Flags.{virt_of}

-- a virtual method like this one stands above its type: in its base or, where that has none, in the nearest base that has one
pub record Overrides (types : List TypeRow) (members : List MemberRow) (explicit : List (MemberId × MemberId)) (row : MemberRow) : Type 0 where
  pub b : ℕ
  pub base : IsBase types row.owner.0 b
  pub n : ℕ
  pub nearest : IsNearest types members explicit row b n

-- whether a fact holds
abbrev pub Tells : Bool → Type 0 → Type 0
Tells true Fact = Fact
Tells false Fact = Fact → ⊥

-- a member with these flags does with slots what they say, where all rows decide whether it overrides one
pub record IsByFlags (types : List TypeRow) (members : List MemberRow) (explicit : List (MemberId × MemberId)) (flags : ℕ) (row : MemberRow) : Type 0 where
  pub overrides : Bool
  pub told : Tells overrides (Overrides types members explicit row)
  pub virt : row.virt ≡ virt_of flags overrides

-- the same row, but that it does this with slots
abbrev pub with_virt : Virt → MemberRow → MemberRow
with_virt virt row = record {
  owner = row.owner;
  name = row.name;
  kind = row.kind;
  access = row.access;
  is_static = row.is_static;
  virt = virt;
  params = row.params;
  result = row.result;
}

-- The members from `own_from` on are own, and have these flags. What each does with slots follows from its flags and from the
-- rows that are made; all else stays.
pub record AreSettled (types : List TypeRow) (explicit : List (MemberId × MemberId)) (own_from : ℕ) (flags : List ℕ) (before after : List MemberRow) : Type 0 where
  pub long : length after ≡ length before
  pub of_references : (m : ℕ) (row : MemberRow) → m < own_from → slice_get after m ≡ Some row → slice_get before m ≡ Some row
  pub stays : (m : ℕ) (row : MemberRow) → slice_get after m ≡ Some row → (old : MemberRow) × (slice_get before m ≡ Some old) × (row ≡ with_virt row.virt old)
  pub own : (k flag : ℕ) (row : MemberRow) → slice_get flags k ≡ Some flag → slice_get after (own_from + k) ≡ Some row → IsByFlags types after explicit flag row
