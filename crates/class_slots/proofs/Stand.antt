-- A type is entered, and left again.
use Rattle.std.proofs.Common.{◌≡◌, ◌↔◌, ◌<◌, ◌+◌, ℕ, Some, List, [], ◌∷◌, length, drop, get_or, add-one, drop-cons, inl, inr, refl, sym, ap, subst, ◌∙◌, arith}
use Rattle.std.proofs.lemmas.Option.{slice_get_within, get_or_from_slice_get}
use Rattle.std.specs.List.{slice_get, Contains}
use Rattle.std.specs.Prelude.{IfOk, Result, Ok, Err}
use Rattle.dc_base.specs.declared.failure.NoMemory.{NoMemory}
use Rattle.class_rows.specs.declared.row.TypeRow.{TypeRow}
use Rattle.class_rows.specs.Members.{IsOf}
use Rattle.class_walk.specs.declared.walk.Step.{Step}
use Rattle.class_walk.specs.declared.walk.Step.TheVariants.{Leave}
use Rattle.class_walk.specs.Walk.{IsBelow, IsWalk}
use Rattle.class_open.specs.declared.open.Open.{Open}
use Rattle.class_open.specs.Trail.{Has}
use Rattle.class_open.specs.Stacks.{AreStacked, AreMore, AreLess}
use Rattle.class_open.proofs.Path.{path_apart, none_open, trail_more, trail_less}
use Rattle.class_slots.specs.declared.known.Known.{Known}
use Rattle.class_slots.specs.declared.walked.Progress.{Progress}
use Rattle.class_slots.specs.Known.{IsKnown, IsOpenAt}
use Rattle.class_slots.specs.Told.{AreSlotsAbove, AreSlotsOf, AreSlotsWith}
use Rattle.class_slots.specs.At.{IsAt}
use Rattle.class_slots.proofs.Under.{told_above, told_with}

module _ (known : Known) (are : IsKnown known) where
  pub above_at : (p : Progress) (path : List ℕ) (t : ℕ) → IsAt known path p → IsBelow known.types.now path t → AreSlotsAbove known.types.now known.members.now known.explicit.now p.slots.items t
  above_at p path t at below =
      told_above known.types.now known.members.now known.explicit.now p.slots.items path t are.owners at.stacks.chain below at.long at.told

  -- the members of a type aren't open before it is entered
  pub fresh_at : (stacks : Open) (path own : List ℕ) (t : ℕ) → IsOpenAt known path stacks → IsBelow known.types.now path t → ((m : ℕ) → Contains own m ↔ IsOf known.members.now t m) → (m : ℕ) → Contains own m → Has stacks.trail m → ⊥
  fresh_at stacks path own t at below exact m has =
      none_open known.members.now known.virtuals.now path stacks.trail t m at.trail (path_apart known.types.now known.order.now are.order t path at.chain below) ((exact m).0 has)

  pub within_at : (own : List ℕ) (t : ℕ) → ((m : ℕ) → Contains own m ↔ IsOf known.members.now t m) → (k m : ℕ) → slice_get own k ≡ Some m → m < length known.signs.now
  within_at own t exact k m at =
      let of_ = (exact m).0 (k, slice_get_within own k m at, get_or_from_slice_get own k m m at) in
      let lt = slice_get_within known.members.now m of_.row of_.stands in
      let long = are.signs.long in
      omega (arith, lt, long)

  pub at_entered : (p q : Progress) (path own : List ℕ) (t : ℕ) → IsAt known path p → IsBelow known.types.now path t → ((m : ℕ) → Contains own m ↔ IsOf known.members.now t m) → AreStacked known.signs.now q.stacks.tops.items q.stacks.below.items q.stacks.trail → AreMore known.virtuals.now own p.stacks.trail q.stacks.trail → AreSlotsWith known.types.now known.members.now known.explicit.now p.slots.items q.slots.items t → IsAt known (t ∷ path) q
  at_entered p q path own t at below exact stacked more with_ = record {
    stacks = record {
      chain = (below, at.stacks.chain);
      trail = trail_more known.members.now known.virtuals.now path own p.stacks.trail q.stacks.trail t exact at.stacks.trail more;
      stacked = stacked;
    };
    long = with_.long;
    told = λ u on. elim on [
      | inl e ↦ subst (λ (n : ℕ). AreSlotsOf known.types.now known.members.now known.explicit.now q.slots.items n) e with_.own
      | inr h ↦ told_with known.types.now known.members.now known.explicit.now p.slots.items q.slots.items t u with_ (at.told u h)
    ];
  }

  pub at_left : (p q : Progress) (path : List ℕ) (t : ℕ) → IsAt known (t ∷ path) p → AreStacked known.signs.now q.stacks.tops.items q.stacks.below.items q.stacks.trail → AreLess known.members.now t p.stacks.trail q.stacks.trail → q.slots.items ≡ p.slots.items → IsAt known path q
  at_left p q path t at stacked less same = record {
    stacks = record {
      chain = at.stacks.chain.1;
      trail = trail_less known.members.now known.virtuals.now path p.stacks.trail q.stacks.trail t (path_apart known.types.now known.order.now are.order t path at.stacks.chain.1 at.stacks.chain.0) at.stacks.trail less;
      stacked = stacked;
    };
    long = ap length same ∙ at.long;
    told = λ u on. subst (λ (l : List ℕ). AreSlotsOf known.types.now known.members.now known.explicit.now l u) (sym same) (at.told u (inr on));
  }

-- a walk that leaves a type goes on from the path above it
pub onward : (known : Known) (p q : Progress) (t : ℕ) → ((path : List ℕ) → IsAt known (t ∷ path) p → IsAt known path q) → (path : List ℕ) (rest : List Step) → IsAt known path p → IsWalk known.types.now path (Leave (record { 0 = t }) ∷ rest) → (up : List ℕ) × IsAt known up q × IsWalk known.types.now up rest
onward known p q t next [] rest at walk = absurd walk
onward known p q t next (u ∷ path) rest at walk = (path, next path (subst (λ (n : ℕ). IsAt known (n ∷ path) p) walk.0 at), walk.1)

-- before the first step
pub at_first : (known : Known) (p : Progress) → AreStacked known.signs.now p.stacks.tops.items p.stacks.below.items p.stacks.trail → p.stacks.trail ≡ [] → length p.slots.items ≡ length known.members.now → IsAt known [] p
at_first known p stacked none long = record {
  stacks = record { chain = tt; trail = none; stacked = stacked };
  long = long;
  told = λ t h. absurd h;
}

pub next_step : (types : List TypeRow) (path : List ℕ) (steps : List Step) (k : ℕ) (d : Step) → k < length steps → IsWalk types path (drop k steps) → IsWalk types path (get_or steps k d ∷ drop (k + 1) steps)
next_step types path steps k d lt walk =
    let e : drop k steps ≡ get_or steps k d ∷ drop (k + 1) steps = rw (add-one, drop-cons steps k d) refl in
    subst (λ (l : List Step). IsWalk types path l) e walk

pub onward_if : (known : Known) (p : Progress) (t : ℕ) (step : Step) → step ≡ Leave (record { 0 = t }) → (r : Result Progress NoMemory) → IfOk r (λ (new : Progress). (path : List ℕ) → IsAt known (t ∷ path) p → IsAt known path new) → IfOk r (λ (new : Progress). (path : List ℕ) (rest : List Step) → IsAt known path p → IsWalk known.types.now path (step ∷ rest) → (up : List ℕ) × IsAt known up new × IsWalk known.types.now up rest)
onward_if known p t step is (Ok new) next = λ path rest at walk. onward known p new t next path rest at (subst (λ (s : Step). IsWalk known.types.now path (s ∷ rest)) is walk)
onward_if known p t step is (Err e) next = tt
