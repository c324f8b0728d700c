-- Inner facts: what is computed of the rows once, and the virtual methods that stand open.
use Rattle.std.specs.Prelude.{◌≡◌, ◌≢◌, ℕ, ◌<◌, List, Bool, true, false, Some, length, slice_get}
use Rattle.dc_base.specs.declared.names.MemberId.{MemberId}
use Rattle.class_chains.specs.Ends.{IsAboveFirst}
use Rattle.class_rows.specs.declared.row.TypeRow.{TypeRow}
use Rattle.class_rows.specs.declared.row.MemberRow.{MemberRow}
use Rattle.class_rows.specs.declared.row.Virt.TheVariants.{Plain}
use Rattle.class_rows.specs.Types.{IsAbove}
use Rattle.class_rows.specs.Members.{HasMember, IsNameless}
use Rattle.class_alike.specs.Named.{IsNamed}
use Rattle.class_walk.specs.Walk.{IsBelow}
use Rattle.class_open.specs.declared.open.Open.{Open}
use Rattle.class_open.specs.Signs.{AreSigns}
use Rattle.class_open.specs.Trail.{IsPath, IsTrail}
use Rattle.class_open.specs.Stacks.{AreStacked}
use Rattle.class_slots.specs.declared.known.Known.{Known}
use Rattle.class_slots.specs.Slots.{OwnersAreThere}

-- a virtual instance method with a name
abbrev pub IsVirtual : List TypeRow → List MemberRow → List (MemberId × MemberId) → ℕ → Type 0
IsVirtual types members explicit n =
    HasMember members n (λ row. (row.virt ≢ Plain) × (row.is_static ≡ false)) × (IsNameless types members explicit n → ⊥)

-- of the first so many members the flags of those are up
pub record AreVirtuals (types : List TypeRow) (members : List MemberRow) (explicit : List (MemberId × MemberId)) (count : ℕ) (flags : List Bool) : Type 0 where
  pub long : length flags ≡ count
  pub yes_ : (n : ℕ) → slice_get flags n ≡ Some true → IsVirtual types members explicit n
  pub no_ : (n : ℕ) → n < count → IsVirtual types members explicit n → slice_get flags n ≡ Some true

pub record IsKnown (known : Known) : Type 0 where
  pub order : IsAboveFirst (IsAbove known.types.now) (length known.types.now) known.order.now
  pub named : IsNamed known.types.now known.members.now known.explicit.now known.named.now
  pub owners : OwnersAreThere known.types.now known.members.now
  pub signs : AreSigns known.members.now known.signs.now
  pub virtuals : AreVirtuals known.types.now known.members.now known.explicit.now (length known.members.now) known.virtuals.now

-- the virtual methods of the types of a path stand open
pub record IsOpenAt (known : Known) (path : List ℕ) (stacks : Open) : Type 0 where
  pub chain : IsPath known.types.now path
  pub trail : IsTrail known.members.now known.virtuals.now path stacks.trail
  pub stacked : AreStacked known.signs.now stacks.tops.items stacks.below.items stacks.trail

-- and a type stands directly below the path
abbrev pub IsOpenAbove : Known → Open → ℕ → Type 0
IsOpenAbove known stacks t = (path : List ℕ) × IsOpenAt known path stacks × IsBelow known.types.now path t
