-- Inner facts: which own types have members of a kind, told by one look at each own member.
use Rattle.std.specs.Prelude.{◌≡◌, ℕ, ◌-◌, ◌<◌, List, Bool, true, length, Some, slice_get}
use Rattle.class_rows.specs.declared.row.MemberRow.{MemberRow}
use Rattle.cli_shapes.specs.declared.own.Own.{Own}
use Rattle.cli_shapes.specs.declared.marks.Sought.{Sought}
use Rattle.cli_shapes.specs.declared.marks.Sought.TheVariants.{Instance, Constructor, Method, UsualMaker, OtherMaker, UsualInvoke, OtherInvoke}
use Rattle.cli_shapes.specs.declared.marks.Marks.{Marks}
use Rattle.cli_shapes.specs.Own.{IsOf, HasOf, IsSound}
use Rattle.cli_shapes.specs.Types.{IsInstance, IsConstructor, IsMethod, IsUsualMaker, IsOtherMaker, IsUsualInvoke, IsOtherInvoke}

abbrev pub Is : Own → Sought → ℕ → MemberRow → Type 0
Is s Instance = IsInstance
Is s Constructor = IsConstructor
Is s Method = IsMethod
Is s UsualMaker = IsUsualMaker s
Is s OtherMaker = IsOtherMaker s
Is s UsualInvoke = IsUsualInvoke
Is s OtherInvoke = IsOtherInvoke

-- the own types are marked that have such a member among the first so many
pub record AreMarksTo (s : Own) (sought : Sought) (count : ℕ) (marks : List Bool) : Type 0 where
  pub long : length marks ≡ length s.table.now.types - s.first_type.0
  pub sound_ : (t : ℕ) → slice_get marks t ≡ Some true → HasOf s t (Is s sought)
  pub all_ : (t k : ℕ) → t < length marks → k < count → IsOf s t (Is s sought) k → slice_get marks t ≡ Some true

-- the own types are marked that have such a member
pub record AreMarks (s : Own) (sought : Sought) (marks : List Bool) : Type 0 where
  pub long : length marks ≡ length s.table.now.types - s.first_type.0
  pub sound_ : (t : ℕ) → slice_get marks t ≡ Some true → HasOf s t (Is s sought)
  pub all_ : (t : ℕ) → t < length marks → HasOf s t (Is s sought) → slice_get marks t ≡ Some true

pub record AreAllMarks (s : Own) (m : Marks) : Type 0 where
  pub sound : IsSound s
  pub instance : AreMarks s Instance m.instance
  pub constructor_ : AreMarks s Constructor m.constructor
  pub method : AreMarks s Method m.method
  pub usual_maker : AreMarks s UsualMaker m.usual_maker
  pub other_maker : AreMarks s OtherMaker m.other_maker
  pub usual_invoke : AreMarks s UsualInvoke m.usual_invoke
  pub other_invoke : AreMarks s OtherInvoke m.other_invoke
