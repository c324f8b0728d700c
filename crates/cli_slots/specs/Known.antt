-- Inner facts: what is computed of the rows once.
use Rattle.std.specs.Prelude.{◌≡◌, ◌+◌, List, [], ◌∷◌, length}
use Rattle.class_chains.specs.Ends.{IsAboveFirst}
use Rattle.class_rows.specs.declared.row.MemberRow.{MemberRow}
use Rattle.class_rows.specs.declared.row.Virt.{Virt}
use Rattle.class_rows.specs.Types.{IsAbove}
use Rattle.class_alike.specs.Named.{IsNamed}
use Rattle.class_open.specs.Signs.{AreSigns}
use Rattle.class_slots.specs.Slots.{OwnersAreThere}
use Rattle.cli_slots.specs.declared.known.Known.{Known}
use Rattle.cli_slots.specs.Settled.{with_virt}

pub record IsKnown (known : Known) : Type 0 where
  pub order : IsAboveFirst (IsAbove known.types.now) (length known.types.now) known.order.now
  pub named : IsNamed known.types.now known.members.now known.explicit.now known.named.now
  pub owners : OwnersAreThere known.types.now known.members.now
  pub signs : AreSigns known.members.now known.signs.now
  pub long : length known.members.now ≡ known.own_from + length known.flags.now

-- the rows, as far as there is a word on slots for each
abbrev pub with_virts : List MemberRow → List Virt → List MemberRow
with_virts [] virts = []
with_virts (row ∷ rows) [] = row ∷ rows
with_virts (row ∷ rows) (virt ∷ virts) = with_virt virt row ∷ with_virts rows virts
