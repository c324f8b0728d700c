-- Inner facts: where a walk stands.
use Rattle.std.specs.Prelude.{◌≡◌, ℕ, ◌<◌, ◌≤◌, List, Option, Some, None, length, slice_get}
use Rattle.dc_base.specs.declared.names.MemberId.{MemberId}
use Rattle.class_walk.specs.declared.walk.Step.{Step}
use Rattle.class_walk.specs.declared.walk.Step.TheVariants.{Enter, Leave}
use Rattle.class_walk.specs.Walk.{EntersAt}
use Rattle.cli_refs.specs.declared.key.Sought.{Sought}
use Rattle.cli_refs.specs.declared.walked.Known.{Known}
use Rattle.cli_refs.specs.declared.walked.Progress.{Progress}
use Rattle.cli_refs.specs.Sought.{IsMemberMeant}
use Rattle.cli_refs.specs.Asked.{Asks}
use Rattle.cli_refs.specs.Known.{IsOpenAt}

-- what was found for a reference is the member that it means
abbrev pub IsTold : Known → List (Option MemberId) → ℕ → Type 0
IsTold known found q =
    (s : Sought) (m : Option MemberId) → slice_get known.sought.now q ≡ Some s → slice_get found q ≡ Some m → IsMemberMeant known.types.now known.members.now s m

-- one more reference is told
pub record IsOneTold (known : Known) (q : ℕ) (before after : List (Option MemberId)) : Type 0 where
  pub long : length after ≡ length before
  pub told : IsTold known after q
  pub kept : (n : ℕ) → (q ≡ n → ⊥) → slice_get after n ≡ slice_get before n

-- the references to one more type are told, if the type is there, and what was found of others stays
pub record AreAnswered (known : Known) (t : ℕ) (before after : List (Option MemberId)) : Type 0 where
  pub long : length after ≡ length known.sought.now
  pub told : t < length known.types.now → (q : ℕ) → Asks known.sought.now t q → IsTold known after q
  pub kept : (q : ℕ) → ((t < length known.types.now) × Asks known.sought.now t q → ⊥) → slice_get after q ≡ slice_get before q

-- the members of the types of a path stand open, and nothing was found for references to types that aren't there
pub record IsAt (known : Known) (path : List ℕ) (p : Progress) : Type 0 where
  pub stacks : IsOpenAt known path p.stacks
  pub long : length p.found.items ≡ length known.sought.now
  pub past : (t q : ℕ) → length known.types.now ≤ t → Asks known.sought.now t q → slice_get p.found.items q ≡ Some None

-- a step tells the references to the type that it enters
abbrev pub IsStepTold : Known → Step → List (Option MemberId) → List (Option MemberId) → Type 0
IsStepTold known (Enter t) before after = AreAnswered known t.0 before after
IsStepTold known (Leave t) before after = after ≡ before

-- the references to each type that was entered in so many steps are told
abbrev pub AreTold : Known → List Step → List (Option MemberId) → ℕ → Type 0
AreTold known steps found k = (j t : ℕ) → j < k → EntersAt steps j t → t < length known.types.now → (q : ℕ) → Asks known.sought.now t q → IsTold known found q
