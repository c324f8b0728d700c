-- Inner facts: what stands open on the way.
use Rattle.std.specs.Prelude.{◌≡◌, ℕ, ◌<◌, List, ◌∷◌, true, Some, length, slice_get}
use Rattle.class_rows.specs.declared.row.TypeRow.{TypeRow}
use Rattle.class_rows.specs.declared.row.MemberRow.{MemberRow}
use Rattle.class_open.specs.Trail.{Has, IsPath, IsTrail, IsAlikeTo}
use Rattle.class_open.specs.Stacks.{AreStacked}
use Rattle.class_implemented.specs.declared.known.Known.{Known}
use Rattle.class_implemented.specs.declared.standing.Standing.{Standing}
use Rattle.class_implemented.specs.Explicit.{IsPairOf}
use Rattle.class_implemented.specs.Marked.{AreMarks}

pub record IsStanding (known : Known) (path : List ℕ) (s : Standing) : Type 0 where
  pub chain : IsPath known.types.now path
  pub trail : IsTrail known.members.now known.implicit.now path s.stacks.trail
  pub stacked : AreStacked known.signs.now s.stacks.tops.items s.stacks.below.items s.stacks.trail
  pub wide : length s.flags.items ≡ length known.types.now
  pub flagged : (u : ℕ) → slice_get s.flags.items u ≡ Some true → Has path u
  pub all_flagged : (u : ℕ) → u < length known.types.now → Has path u → slice_get s.flags.items u ≡ Some true
  pub long : length s.marks.items ≡ length known.members.now
  pub sound : (m u : ℕ) → slice_get s.marks.items m ≡ Some (Some u) → (u < length known.types.now) × IsPairOf known.members.now known.explicit.now u m
  pub marks : AreMarks known.members.now known.explicit.now (length known.types.now) s.marks.items path

-- c is the innermost type on the way
abbrev pub IsStandingAt : Known → Standing → ℕ → Type 0
IsStandingAt known s c = (c < length known.types.now) × (path : List ℕ) × IsStanding known (c ∷ path) s

-- a member that is open is alike to this one
abbrev pub HasOpenLike : List TypeRow → List MemberRow → MemberRow → List ℕ → Type 0
HasOpenLike types members due trail = (x : ℕ) × Has trail x × IsAlikeTo types members due x
