-- Inner facts: where the walk stands, and what is told of the types that were entered.
use Rattle.std.specs.Prelude.{◌≡◌, ℕ, ◌<◌, List, Option, Some, length, slice_get}
use Rattle.class_keys.specs.Least.{IsLeastOf}
use Rattle.class_walk.specs.declared.walk.Step.{Step}
use Rattle.class_walk.specs.declared.walk.Step.TheVariants.{Enter, Leave}
use Rattle.class_walk.specs.Walk.{EntersAt}
use Rattle.class_implemented.specs.declared.known.Known.{Known}
use Rattle.class_implemented.specs.declared.walked.Progress.{Progress}
use Rattle.class_implemented.specs.Open.{IsMissing, AreClean, ArePassed}
use Rattle.class_implemented.specs.Standing.{IsStanding}

pub record IsAt (known : Known) (path : List ℕ) (p : Progress) : Type 0 where
  pub standing : IsStanding known path p.standing
  pub clean : AreClean known p.marks.clean.items
  pub passed : ArePassed known p.marks.passed.items
  pub long : length p.least.items ≡ length known.types.now

-- what is told of a type is the least method that is missing in it
abbrev pub IsTold : Known → List (Option ℕ) → ℕ → Type 0
IsTold known least t = (o : Option ℕ) → slice_get least t ≡ Some o → IsLeastOf (IsMissing known t) o

pub record IsToldWith (known : Known) (t : ℕ) (before after : List (Option ℕ)) : Type 0 where
  pub own : IsTold known after t
  pub kept : (u : ℕ) → (t ≡ u → ⊥) → slice_get after u ≡ slice_get before u

abbrev pub IsStepTold : Known → Step → List (Option ℕ) → List (Option ℕ) → Type 0
IsStepTold known (Enter t) before after = IsToldWith known t.0 before after
IsStepTold known (Leave t) before after = after ≡ before

-- so it is of each type that was entered in so many steps
abbrev pub AreTold : Known → List Step → List (Option ℕ) → ℕ → Type 0
AreTold known steps least k = (j t : ℕ) → j < k → EntersAt steps j t → IsTold known least t

-- and of all types
pub record AreLeast (known : Known) (least : List (Option ℕ)) : Type 0 where
  pub long : length least ≡ length known.types.now
  pub told : (t : ℕ) → t < length known.types.now → IsTold known least t
