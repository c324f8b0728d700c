-- Inner facts: where a walk stands.
use Rattle.std.specs.Prelude.{◌≡◌, ℕ, ◌<◌, List, length}
use Rattle.dc_base.specs.declared.names.MemberId.{MemberId}
use Rattle.class_rows.specs.declared.row.TypeRow.{TypeRow}
use Rattle.class_rows.specs.declared.row.MemberRow.{MemberRow}
use Rattle.class_walk.specs.declared.walk.Step.{Step}
use Rattle.class_walk.specs.declared.walk.Step.TheVariants.{Enter, Leave}
use Rattle.class_walk.specs.Walk.{EntersAt}
use Rattle.class_open.specs.Trail.{Has}
use Rattle.class_slots.specs.declared.known.Known.{Known}
use Rattle.class_slots.specs.declared.walked.Progress.{Progress}
use Rattle.class_slots.specs.Known.{IsOpenAt}
use Rattle.class_slots.specs.Told.{AreSlotsOf, AreSlotsWith}

-- the types of a path were entered: their virtual methods stand open, and the slots of their members are told
pub record IsAt (known : Known) (path : List ℕ) (p : Progress) : Type 0 where
  pub stacks : IsOpenAt known path p.stacks
  pub long : length p.slots.items ≡ length known.members.now
  pub told : (t : ℕ) → Has path t → AreSlotsOf known.types.now known.members.now known.explicit.now p.slots.items t

-- a step tells the members of the type that it enters
abbrev pub IsStepTold : Known → Step → List ℕ → List ℕ → Type 0
IsStepTold known (Enter t) before after = AreSlotsWith known.types.now known.members.now known.explicit.now before after t.0
IsStepTold known (Leave t) before after = after ≡ before

-- the members of each type that was entered in so many steps are told
abbrev pub AreTold : List TypeRow → List MemberRow → List (MemberId × MemberId) → List Step → List ℕ → ℕ → Type 0
AreTold types members explicit steps slots k = (j t : ℕ) → j < k → EntersAt steps j t → AreSlotsOf types members explicit slots t
