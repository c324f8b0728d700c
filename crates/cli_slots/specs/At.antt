-- Inner facts: where a walk stands.
use Rattle.std.specs.Prelude.{◌≡◌, ◌⊎◌, ℕ, ◌<◌, ◌≤◌, List, [], ◌∷◌, length}
use Rattle.class_rows.specs.Types.{IsBase}
use Rattle.class_rows.specs.Members.{IsOf}
use Rattle.class_walk.specs.declared.walk.Step.{Step}
use Rattle.class_walk.specs.declared.walk.Step.TheVariants.{Enter, Leave}
use Rattle.class_walk.specs.Walk.{EntersAt}
use Rattle.class_open.specs.Trail.{IsPath, IsTrail}
use Rattle.class_open.specs.Stacks.{AreStacked}
use Rattle.cli_slots.specs.declared.known.Known.{Known}
use Rattle.cli_slots.specs.declared.told.Told.{Told}
use Rattle.cli_slots.specs.declared.walked.Progress.{Progress}
use Rattle.cli_slots.specs.Told.{ByRows, IsTold, AreLong, AreWritten}

-- the virtual methods of the types of a path stand open
pub record IsAt (known : Known) (path : List ℕ) (p : Progress) : Type 0 where
  pub chain : IsPath known.types.now path
  pub trail : IsTrail known.members.now p.told.picks.items path p.stacks.trail
  pub stacked : AreStacked known.signs.now p.stacks.tops.items p.stacks.below.items p.stacks.trail
  pub long : AreLong known p.told

-- the path behind a step
abbrev pub onward : Step → List ℕ → List ℕ
onward (Enter t) path = t.0 ∷ path
onward (Leave t) [] = []
onward (Leave t) (u ∷ path) = path

-- a step tells the members of the type that it enters, by what stood open before
abbrev pub IsStepTold : Known → Step → Progress → Progress → Type 0
IsStepTold known (Enter t) before after = AreWritten known before.stacks.trail before.told after.told t.0
IsStepTold known (Leave t) before after = after.told ≡ before.told

-- the type was entered in so many steps
abbrev pub IsEntered : List Step → ℕ → ℕ → Type 0
IsEntered steps k u = (j : ℕ) × (j < k) × EntersAt steps j u

-- the members of each type that was entered are told by all rows, and so was the base of each entered, where it is there
pub record AreTold (known : Known) (steps : List Step) (k : ℕ) (told : Told) : Type 0 where
  pub each : (u m : ℕ) → IsEntered steps k u → IsOf known.members.now u m → IsTold known (ByRows known told.virts.items) told.virts.items told.picks.items m
  pub closed : (u b : ℕ) → IsEntered steps k u → IsBase known.types.now u b → IsEntered steps k b ⊎ (length known.types.now ≤ b)
