-- A type is entered, and left again.
use Rattle.std.proofs.Common.{◌≡◌, ◌↔◌, ◌<◌, ◌+◌, ℕ, Bool, Some, List, [], ◌∷◌, length, drop, get_or, add-one, drop-cons, inl, inr, refl, sym, subst, ◌∙◌, arith}
use Rattle.std.proofs.lemmas.Option.{slice_get_within, get_or_from_slice_get}
use Rattle.std.specs.List.{slice_get, Contains}
use Rattle.std.specs.Prelude.{IfOk, Result, Ok, Err}
use Rattle.dc_base.specs.declared.failure.NoMemory.{NoMemory}
use Rattle.class_rows.specs.declared.row.TypeRow.{TypeRow}
use Rattle.class_rows.specs.declared.row.MemberRow.{MemberRow}
use Rattle.class_rows.specs.Members.{IsOf}
use Rattle.class_walk.specs.declared.walk.Step.{Step}
use Rattle.class_walk.specs.declared.walk.Step.TheVariants.{Enter, Leave}
use Rattle.class_walk.specs.Walk.{IsBelow, IsWalk}
use Rattle.class_open.specs.Trail.{Has, IsTrail}
use Rattle.class_open.specs.Stacks.{AreStacked, AreMore, AreLess}
use Rattle.class_open.proofs.Path.{one_owner, path_apart, none_open, trail_more, trail_less}
use Rattle.cli_slots.specs.declared.known.Known.{Known}
use Rattle.cli_slots.specs.declared.told.Told.{Told}
use Rattle.cli_slots.specs.declared.walked.Progress.{Progress}
use Rattle.cli_slots.specs.Known.{IsKnown}
use Rattle.cli_slots.specs.Told.{AreLong, AreWritten}
use Rattle.cli_slots.specs.At.{IsAt, onward}

-- the members of the types of a path stand open as before, where their flags are as before
trail_kept : (members : List MemberRow) (before after : List Bool) (path trail : List ℕ) → ((u m : ℕ) → Has path u → IsOf members u m → slice_get after m ≡ slice_get before m) → IsTrail members before path trail → IsTrail members after path trail
trail_kept members before after [] trail kept is = is
trail_kept members before after (t ∷ path) trail kept is = (
  is.0,
  is.1,
  is.2,
  (λ m. (
    (λ h. let was = (is.3 m).0 h in (was.0, kept t m (inl refl) was.0 ∙ was.1)),
    (λ picked. (is.3 m).1 (picked.0, sym (kept t m (inl refl) picked.0) ∙ picked.1)),
  )),
  trail_kept members before after path is.1 (λ u m on. kept u m (inr on)) is.4,
)

module _ (known : Known) (are : IsKnown known) where
  -- the members of a type aren't open before it is entered
  pub fresh_at : (p : Progress) (path own : List ℕ) (t : ℕ) → IsAt known path p → IsBelow known.types.now path t → ((m : ℕ) → Contains own m ↔ IsOf known.members.now t m) → (m : ℕ) → Contains own m → Has p.stacks.trail m → ⊥
  fresh_at p path own t at below exact m has =
      none_open known.members.now p.told.picks.items path p.stacks.trail t m at.trail (path_apart known.types.now known.order.now are.order t path at.chain below) ((exact m).0 has)

  pub within_at : (own : List ℕ) (t : ℕ) → ((m : ℕ) → Contains own m ↔ IsOf known.members.now t m) → (k m : ℕ) → slice_get own k ≡ Some m → m < length known.signs.now
  within_at own t exact k m at =
      let of_ = (exact m).0 (k, slice_get_within own k m at, get_or_from_slice_get own k m m at) in
      let lt = slice_get_within known.members.now m of_.row of_.stands in
      let long = are.signs.long in
      omega (arith, lt, long)

  pub at_entered : (p q : Progress) (path own : List ℕ) (t : ℕ) → IsAt known path p → IsBelow known.types.now path t → ((m : ℕ) → Contains own m ↔ IsOf known.members.now t m) → AreStacked known.signs.now q.stacks.tops.items q.stacks.below.items q.stacks.trail → AreMore q.told.picks.items own p.stacks.trail q.stacks.trail → AreWritten known p.stacks.trail p.told q.told t → IsAt known (t ∷ path) q
  at_entered p q path own t at below exact stacked more written =
      let apart = path_apart known.types.now known.order.now are.order t path at.chain below in
      let open_ : IsTrail known.members.now q.told.picks.items path p.stacks.trail =
      trail_kept known.members.now p.told.picks.items q.told.picks.items path p.stacks.trail
      (λ u m on of_. (written.kept m (λ mine. apart (subst (λ (n : ℕ). Has path n) (one_owner known.members.now u t m of_ mine) on))).1) at.trail in
      record {
        chain = (below, at.chain);
        trail = trail_more known.members.now q.told.picks.items path own p.stacks.trail q.stacks.trail t exact open_ more;
        stacked = stacked;
        long = written.long;
      }

  pub at_left : (p q : Progress) (path : List ℕ) (t : ℕ) → IsAt known (t ∷ path) p → AreStacked known.signs.now q.stacks.tops.items q.stacks.below.items q.stacks.trail → AreLess known.members.now t p.stacks.trail q.stacks.trail → q.told ≡ p.told → IsAt known path q
  at_left p q path t at stacked less same = record {
    chain = at.chain.1;
    trail = subst (λ (w : Told). IsTrail known.members.now w.picks.items path q.stacks.trail) (sym same)
        (trail_less known.members.now p.told.picks.items path p.stacks.trail q.stacks.trail t (path_apart known.types.now known.order.now are.order t path at.chain.1 at.chain.0) at.trail less);
    stacked = stacked;
    long = subst (λ (w : Told). AreLong known w) (sym same) at.long;
  }

-- before the first step
pub at_first : (known : Known) (p : Progress) → AreStacked known.signs.now p.stacks.tops.items p.stacks.below.items p.stacks.trail → p.stacks.trail ≡ [] → AreLong known p.told → IsAt known [] p
at_first known p stacked none long = record { chain = tt; trail = none; stacked = stacked; long = long }

-- a walk that leaves a type goes on from the path above it
left_onward : (known : Known) (p q : Progress) (t : ℕ) → ((path : List ℕ) → IsAt known (t ∷ path) p → IsAt known path q) → (path : List ℕ) (rest : List Step) → IsAt known path p → IsWalk known.types.now path (Leave (record { 0 = t }) ∷ rest) → IsAt known (onward (Leave (record { 0 = t })) path) q
left_onward known p q t next [] rest at walk = absurd walk
left_onward known p q t next (u ∷ path) rest at walk = next path (subst (λ (n : ℕ). IsAt known (n ∷ path) p) walk.0 at)

pub onward_if : (known : Known) (p : Progress) (t : ℕ) (step : Step) → step ≡ Leave (record { 0 = t }) → (r : Result Progress NoMemory) → IfOk r (λ (new : Progress). (path : List ℕ) → IsAt known (t ∷ path) p → IsAt known path new) → IfOk r (λ (new : Progress). (path : List ℕ) (rest : List Step) → IsAt known path p → IsWalk known.types.now path (step ∷ rest) → IsAt known (onward step path) new)
onward_if known p t step is (Ok new) next = λ path rest at walk.
    subst (λ (s : Step). IsAt known (onward s path) new) (sym is) (left_onward known p new t next path rest at (subst (λ (s : Step). IsWalk known.types.now path (s ∷ rest)) is walk))
onward_if known p t step is (Err e) next = tt

-- the walk from the path behind a step
pub walk_onward : (types : List TypeRow) (path : List ℕ) (step : Step) (rest : List Step) → IsWalk types path (step ∷ rest) → IsWalk types (onward step path) rest
walk_onward types path (Enter t) rest walk = walk.1
walk_onward types [] (Leave t) rest walk = absurd walk
walk_onward types (u ∷ path) (Leave t) rest walk = walk.1

pub next_step : (types : List TypeRow) (path : List ℕ) (steps : List Step) (k : ℕ) (d : Step) → k < length steps → IsWalk types path (drop k steps) → IsWalk types path (get_or steps k d ∷ drop (k + 1) steps)
next_step types path steps k d lt walk =
    let e : drop k steps ≡ get_or steps k d ∷ drop (k + 1) steps = rw (add-one, drop-cons steps k d) refl in
    subst (λ (l : List Step). IsWalk types path l) e walk
