-- A type is entered, and left again.
use Rattle.std.proofs.Common.{◌≡◌, ◌↔◌, ◌<◌, ◌≤◌, ◌+◌, ℕ, zero, suc, Option, Some, None, List, [], ◌∷◌, length, drop, get_or, replicate, add-one, drop-cons, refl, sym, ap, subst, ◌∙◌, arith}
use Rattle.std.proofs.lemmas.List.{length-replicate}
use Rattle.std.proofs.lemmas.Option.{slice_get_within, get_or_from_slice_get}
use Rattle.std.specs.List.{slice_get, Contains}
use Rattle.std.specs.Prelude.{IfOk, Result, Ok, Err}
use Rattle.dc_base.specs.declared.failure.NoMemory.{NoMemory}
use Rattle.dc_base.specs.declared.names.MemberId.{MemberId}
use Rattle.class_keys.proofs.Items.{one_item}
use Rattle.class_rows.specs.declared.row.TypeRow.{TypeRow}
use Rattle.class_rows.specs.Members.{IsOf}
use Rattle.class_walk.specs.declared.walk.Step.{Step}
use Rattle.class_walk.specs.declared.walk.Step.TheVariants.{Leave}
use Rattle.class_walk.specs.Walk.{IsBelow, IsWalk}
use Rattle.class_open.specs.declared.open.Open.{Open}
use Rattle.class_open.specs.Trail.{Has}
use Rattle.class_open.specs.Stacks.{AreStacked, AreMore, AreLess}
use Rattle.class_open.proofs.Path.{path_apart, none_open, trail_more, trail_less}
use Rattle.cli_refs.specs.declared.key.Sought.{Sought}
use Rattle.cli_refs.specs.declared.walked.Known.{Known}
use Rattle.cli_refs.specs.declared.walked.Progress.{Progress}
use Rattle.cli_refs.specs.Asked.{Asks}
use Rattle.cli_refs.specs.Known.{IsKnown, IsOpenAt}
use Rattle.cli_refs.specs.At.{IsAt, AreAnswered}

module _ (known : Known) (are : IsKnown known) where
  -- the members of a type aren't open before it is entered
  pub fresh_at : (stacks : Open) (path own : List ℕ) (t : ℕ) → IsOpenAt known path stacks → IsBelow known.types.now path t → ((m : ℕ) → Contains own m ↔ IsOf known.members.now t m) → (m : ℕ) → Contains own m → Has stacks.trail m → ⊥
  fresh_at stacks path own t at below exact m has =
      none_open known.members.now known.picks.now path stacks.trail t m at.trail (path_apart known.types.now known.order.now are.order t path at.chain below) ((exact m).0 has)

  pub within_at : (own : List ℕ) (t : ℕ) → ((m : ℕ) → Contains own m ↔ IsOf known.members.now t m) → (k m : ℕ) → slice_get own k ≡ Some m → m < length known.signs.now
  within_at own t exact k m at =
      let of_ = (exact m).0 (k, slice_get_within own k m at, get_or_from_slice_get own k m m at) in
      let lt = slice_get_within known.members.now m of_.row of_.stands in
      let long = are.signs.long in
      omega (arith, lt, long)

  pub open_entered : (before after : Open) (path own : List ℕ) (t : ℕ) → IsOpenAt known path before → IsBelow known.types.now path t → ((m : ℕ) → Contains own m ↔ IsOf known.members.now t m) → AreStacked known.signs.now after.tops.items after.below.items after.trail → AreMore known.picks.now own before.trail after.trail → IsOpenAt known (t ∷ path) after
  open_entered before after path own t at below exact stacked more = record {
    chain = (below, at.chain);
    trail = trail_more known.members.now known.picks.now path own before.trail after.trail t exact at.trail more;
    stacked = stacked;
  }

  -- what was found for references to types that aren't there stays
  pub past_kept : (before after : List (Option MemberId)) (t u q : ℕ) → AreAnswered known t before after → length known.types.now ≤ u → Asks known.sought.now u q → slice_get after q ≡ slice_get before q
  past_kept before after t u q with_ past asks = with_.kept q (λ both.
      let e : t ≡ u = sym both.1.2 ∙ ap (λ (s : Sought). s.parent.0) (one_item known.sought.now q both.1.0 asks.0 both.1.1 asks.1) ∙ asks.2 in
      let lt = both.0 in
      absurd (omega (arith, lt, past, e)))

  pub at_entered : (p q : Progress) (path own : List ℕ) (t : ℕ) → IsAt known path p → IsBelow known.types.now path t → ((m : ℕ) → Contains own m ↔ IsOf known.members.now t m) → AreStacked known.signs.now q.stacks.tops.items q.stacks.below.items q.stacks.trail → AreMore known.picks.now own p.stacks.trail q.stacks.trail → AreAnswered known t p.found.items q.found.items → IsAt known (t ∷ path) q
  at_entered p q path own t at below exact stacked more with_ = record {
    stacks = open_entered p.stacks q.stacks path own t at.stacks below exact stacked more;
    long = with_.long;
    past = λ u n past asks. past_kept p.found.items q.found.items t u n with_ past asks ∙ at.past u n past asks;
  }

  pub at_left : (p q : Progress) (path : List ℕ) (t : ℕ) → IsAt known (t ∷ path) p → AreStacked known.signs.now q.stacks.tops.items q.stacks.below.items q.stacks.trail → AreLess known.members.now t p.stacks.trail q.stacks.trail → q.found.items ≡ p.found.items → IsAt known path q
  at_left p q path t at stacked less same = record {
    stacks = record {
      chain = at.stacks.chain.1;
      trail = trail_less known.members.now known.picks.now path p.stacks.trail q.stacks.trail t (path_apart known.types.now known.order.now are.order t path at.stacks.chain.1 at.stacks.chain.0) at.stacks.trail less;
      stacked = stacked;
    };
    long = ap length same ∙ at.long;
    past = λ u n past asks. ap (λ (l : List (Option MemberId)). slice_get l n) same ∙ at.past u n past asks;
  }

-- a walk that leaves a type goes on from the path above it
pub onward : (known : Known) (p q : Progress) (t : ℕ) → ((path : List ℕ) → IsAt known (t ∷ path) p → IsAt known path q) → (path : List ℕ) (rest : List Step) → IsAt known path p → IsWalk known.types.now path (Leave (record { 0 = t }) ∷ rest) → (up : List ℕ) × IsAt known up q × IsWalk known.types.now up rest
onward known p q t next [] rest at walk = absurd walk
onward known p q t next (u ∷ path) rest at walk = (path, next path (subst (λ (n : ℕ). IsAt known (n ∷ path) p) walk.0 at), walk.1)

pub onward_if : (known : Known) (p : Progress) (t : ℕ) (step : Step) → step ≡ Leave (record { 0 = t }) → (r : Result Progress NoMemory) → IfOk r (λ (new : Progress). (path : List ℕ) → IsAt known (t ∷ path) p → IsAt known path new) → IfOk r (λ (new : Progress). (path : List ℕ) (rest : List Step) → IsAt known path p → IsWalk known.types.now path (step ∷ rest) → (up : List ℕ) × IsAt known up new × IsWalk known.types.now up rest)
onward_if known p t step is (Ok new) next = λ path rest at walk. onward known p new t next path rest at (subst (λ (s : Step). IsWalk known.types.now path (s ∷ rest)) is walk)
onward_if known p t step is (Err e) next = tt

none_there : (n q : ℕ) → q < n → slice_get {X = Option MemberId} (replicate n None) q ≡ Some None
none_there zero q lt = absurd (omega (arith, lt))
none_there (suc n) zero lt = refl
none_there (suc n) (suc q) lt = none_there n q (omega (arith, lt))

-- before the first step
pub at_first : (known : Known) (p : Progress) → AreStacked known.signs.now p.stacks.tops.items p.stacks.below.items p.stacks.trail → p.stacks.trail ≡ [] → p.found.items ≡ replicate (length known.sought.now) None → IsAt known [] p
at_first known p stacked none empty = record {
  stacks = record { chain = tt; trail = none; stacked = stacked };
  long = ap length empty ∙ length-replicate (length known.sought.now) None;
  past = λ t q past asks.
      ap (λ (l : List (Option MemberId)). slice_get l q) empty ∙ none_there (length known.sought.now) q (slice_get_within known.sought.now q asks.0 asks.1);
}

pub next_step : (types : List TypeRow) (path : List ℕ) (steps : List Step) (k : ℕ) (d : Step) → k < length steps → IsWalk types path (drop k steps) → IsWalk types path (get_or steps k d ∷ drop (k + 1) steps)
next_step types path steps k d lt walk =
    let e : drop k steps ≡ get_or steps k d ∷ drop (k + 1) steps = rw (add-one, drop-cons steps k d) refl in
    subst (λ (l : List Step). IsWalk types path l) e walk
