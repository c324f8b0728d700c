-- Inner facts: what is computed of the rows once.
use Rattle.std.specs.Prelude.{◌≡◌, ℕ, ◌<◌, ◌^◌, List, Bool, true, false, Some, length, slice_get}
use Rattle.class_chains.specs.Ends.{IsAboveFirst}
use Rattle.class_rows.specs.declared.row.MemberRow.{MemberRow}
use Rattle.class_rows.specs.declared.row.Access.TheVariants.{Public}
use Rattle.class_rows.specs.Types.{IsAbove}
use Rattle.class_rows.specs.Members.{HasMember}
use Rattle.class_rows.specs.Bases.{BasesAreThere}
use Rattle.class_index.specs.Order.{IsIndex}
use Rattle.class_spread.specs.Spreads.{AreSpreads}
use Rattle.class_open.specs.Signs.{AreSigns}
use Rattle.class_implemented.specs.declared.known.Known.{Known}
use Rattle.class_implemented.specs.Explicit.{AreByType}

-- a public instance member
abbrev pub IsImplicit : List MemberRow → ℕ → Type 0
IsImplicit members n = HasMember members n (λ row. (row.access ≡ Public) × (row.is_static ≡ false))

-- of the first so many members the flags of those are up
pub record AreImplicit (members : List MemberRow) (count : ℕ) (flags : List Bool) : Type 0 where
  pub long : length flags ≡ count
  pub yes_ : (n : ℕ) → slice_get flags n ≡ Some true → IsImplicit members n
  pub no_ : (n : ℕ) → n < count → IsImplicit members n → slice_get flags n ≡ Some true

pub record IsKnown (known : Known) : Type 0 where
  pub short : length known.members.now < 2 ^ 32
  pub bases : BasesAreThere known.types.now known.members.now
  pub order : IsAboveFirst (IsAbove known.types.now) (length known.types.now) known.order.now
  pub index : IsIndex known.members.now known.index.now.order
  pub signs : AreSigns known.members.now known.signs.now
  pub implicit : AreImplicit known.members.now (length known.members.now) known.implicit.now
  pub by_type : AreByType known.members.now known.explicit.now (length known.types.now) (length known.explicit.now) known.by_type.now.last.items known.by_type.now.before.items
  pub spreads : AreSpreads known.types.now known.spreads.now
