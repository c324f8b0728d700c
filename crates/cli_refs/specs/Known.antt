-- Inner facts: what is computed of the rows once, and the members that stand open.
use Rattle.std.specs.Prelude.{ℕ, List, ◌∷◌, length}
use Rattle.class_chains.specs.Ends.{IsAboveFirst}
use Rattle.class_rows.specs.Types.{IsAbove}
use Rattle.class_index.specs.Order.{IsIndex}
use Rattle.class_open.specs.declared.open.Open.{Open}
use Rattle.class_open.specs.Trail.{IsPath, IsTrail}
use Rattle.class_open.specs.Stacks.{AreStacked}
use Rattle.cli_refs.specs.declared.walked.Known.{Known}
use Rattle.cli_refs.specs.Signs.{AreSigns}
use Rattle.cli_refs.specs.Picks.{ArePicks}
use Rattle.cli_refs.specs.Asked.{AreAsked}

pub record IsKnown (known : Known) : Type 0 where
  pub order : IsAboveFirst (IsAbove known.types.now) (length known.types.now) known.order.now
  pub index : IsIndex known.members.now known.index.now.order
  pub signs : AreSigns known.members.now known.sought.now known.signs.now
  pub picks : ArePicks (length known.types.now) known.members.now known.signs.now known.picks.now
  pub asked : AreAsked known.sought.now (length known.types.now) (length known.sought.now) known.asked.now.last.items known.asked.now.before.items

-- the picked members of the types of a path stand open
pub record IsOpenAt (known : Known) (path : List ℕ) (stacks : Open) : Type 0 where
  pub chain : IsPath known.types.now path
  pub trail : IsTrail known.members.now known.picks.now path stacks.trail
  pub stacked : AreStacked known.signs.now stacks.tops.items stacks.below.items stacks.trail

-- a type was entered last
abbrev pub IsOpenFrom : Known → Open → ℕ → Type 0
IsOpenFrom known stacks t = (path : List ℕ) × IsOpenAt known (t ∷ path) stacks
