-- What is open is what stands in the base chain.
use Rattle.std.proofs.Common.{◌≡◌, ◌⊎◌, ◌↔◌, ℕ, ◌≤◌, Bool, List, [], ◌∷◌, ◌++◌, length, inl, inr, sym, refl, ap, subst, ◌∙◌, arith}
use Rattle.std.proofs.lemmas.Option.{slice_get_within}
use Rattle.std.specs.List.{Contains}
use Rattle.class_chains.specs.Ends.{here, further, IsAboveFirst}
use Rattle.class_keys.proofs.Items.{one_item}
use Rattle.class_parts.proofs.Climb.{height, lower_base, one_base}
use Rattle.class_rows.specs.declared.row.TypeRow.{TypeRow}
use Rattle.class_rows.specs.declared.row.MemberRow.{MemberRow}
use Rattle.dc_base.specs.declared.names.TypeId.{TypeId}
use Rattle.class_rows.specs.Types.{IsBase, IsAbove, InBaseChain}
use Rattle.class_rows.specs.Members.{IsOf}
use Rattle.class_walk.specs.Walk.{IsBelow}
use Rattle.class_open.specs.Trail.{Has, IsPath, IsPicked, IsTrail, FirstIn}
use Rattle.class_open.specs.Stacks.{AreMore, AreLess, IsClearOf}

pub one_owner : (members : List MemberRow) (t u m : ℕ) → IsOf members t m → IsOf members u m → t ≡ u
one_owner members t u m p q =
    let e = one_item members m p.row q.row p.stands q.stands in
    ap (λ (o : TypeId). o.0) (sym p.is ∙ ap (λ (r : MemberRow). r.owner) e ∙ q.is)

chain_lower : (types : List TypeRow) (order : List ℕ) → IsAboveFirst (IsAbove types) (length types) order → (b u : ℕ) → InBaseChain types b u → height (length types) order u ≤ height (length types) order b
chain_lower types order first b u (here t) = omega arith
chain_lower types order first b u (further t c a base rest) =
    let up = lower_base types order t c first base in
    let more = chain_lower types order first c a rest in
    omega (arith, up, more)

-- a type is in no chain above itself
pub chain_apart : (types : List TypeRow) (order : List ℕ) → IsAboveFirst (IsAbove types) (length types) order → (t b u : ℕ) → IsBase types t b → InBaseChain types b u → t ≡ u → ⊥
chain_apart types order first t b u base chain e =
    let up = lower_base types order t b first base in
    let more = chain_lower types order first b u chain in
    let same : height (length types) order t ≡ height (length types) order u = ap (λ (n : ℕ). height (length types) order n) e in
    omega (arith, up, more, same)

-- the types of a path are those of the base chain of its innermost one that are there
pub path_chain : (types : List TypeRow) (b u : ℕ) (path : List ℕ) → IsPath types (b ∷ path) → Has (b ∷ path) u → InBaseChain types b u
path_chain types b u path is (inl e) = subst (λ (n : ℕ). InBaseChain types b n) e (here b)
path_chain types b u [] is (inr h) = absurd h
path_chain types b u (c ∷ path) is (inr h) = further b c u is.0 (path_chain types c u path is.1 h)

past_alone : (types : List TypeRow) (b u : ℕ) → length types ≤ b → InBaseChain types b u → b ≡ u
past_alone types b u past (here t) = refl
past_alone types b u past (further t c a base rest) = let lt = slice_get_within types t base.row base.stands in absurd (omega (arith, lt, past))

pub chain_path : (types : List TypeRow) (b u : ℕ) (path : List ℕ) → IsPath types (b ∷ path) → InBaseChain types b u → Has (b ∷ path) u ⊎ (length types ≤ u)
chain_path types b u path is (here t) = inl (inl refl)
chain_path types b u [] is (further t c a base rest) =
    let past = is.0 c base in inr (subst (λ (n : ℕ). length types ≤ n) (past_alone types c a past rest) past)
chain_path types b u (d ∷ path) is (further t c a base rest) =
    elim (chain_path types d a path is.1 (subst (λ (n : ℕ). InBaseChain types n a) (one_base types t c d base is.0) rest)) [
      | inl h ↦ inl (inr h)
      | inr past ↦ inr past
    ]

-- the same of the chain above a type that stands directly below a path
pub above_path : (types : List TypeRow) (t b u : ℕ) (path : List ℕ) → IsPath types path → IsBelow types path t → IsBase types t b → InBaseChain types b u → Has path u ⊎ (length types ≤ u)
above_path types t b u [] is below base chain =
    let past = below b base in inr (subst (λ (n : ℕ). length types ≤ n) (past_alone types b u past chain) past)
above_path types t b u (c ∷ path) is below base chain = chain_path types c u path is (subst (λ (n : ℕ). InBaseChain types n u) (one_base types t b c base below) chain)

pub path_apart : (types : List TypeRow) (order : List ℕ) → IsAboveFirst (IsAbove types) (length types) order → (t : ℕ) (path : List ℕ) → IsPath types path → IsBelow types path t → Has path t → ⊥
path_apart types order first t [] is below h = h
path_apart types order first t (b ∷ path) is below h = chain_apart types order first t b t below (path_chain types b t path is h) refl

module _ (members : List MemberRow) (picks : List Bool) where
  has_left : (xs ys : List ℕ) (m : ℕ) → Has xs m → Has (xs ++ ys) m
  has_left [] ys m h = absurd h
  has_left (x ∷ xs) ys m (inl e) = inl e
  has_left (x ∷ xs) ys m (inr h) = inr (has_left xs ys m h)

  has_right : (xs ys : List ℕ) (m : ℕ) → Has ys m → Has (xs ++ ys) m
  has_right [] ys m h = h
  has_right (x ∷ xs) ys m h = inr (has_right xs ys m h)

  has_either : (xs ys : List ℕ) (m : ℕ) → Has (xs ++ ys) m → Has xs m ⊎ Has ys m
  has_either [] ys m h = inr h
  has_either (x ∷ xs) ys m (inl e) = inl (inl e)
  has_either (x ∷ xs) ys m (inr h) = elim (has_either xs ys m h) [
    | inl a ↦ inl (inr a)
    | inr b ↦ inr b
  ]

  -- what stands in a trail is a picked member of a type of the path
  pub trail_has : (path trail : List ℕ) (t m : ℕ) → IsTrail members picks path trail → Has path t → IsPicked members picks t m → Has trail m
  trail_has [] trail t m is h picked = absurd h
  trail_has (u ∷ path) trail t m is (inl e) picked =
      subst (λ (l : List ℕ). Has l m) (sym is.2) (has_left is.0 is.1 m ((is.3 m).1 (subst (λ (n : ℕ). IsPicked members picks n m) (sym e) picked)))
  trail_has (u ∷ path) trail t m is (inr h) picked =
      subst (λ (l : List ℕ). Has l m) (sym is.2) (has_right is.0 is.1 m (trail_has path is.1 t m is.4 h picked))

  pub trail_of : (path trail : List ℕ) (m : ℕ) → IsTrail members picks path trail → Has trail m → (t : ℕ) × Has path t × IsPicked members picks t m
  trail_of [] trail m is h = absurd (subst (λ (l : List ℕ). Has l m) is h)
  trail_of (u ∷ path) trail m is h = elim (has_either is.0 is.1 m (subst (λ (l : List ℕ). Has l m) is.2 h)) [
    | inl mine ↦ (u, inl refl, (is.3 m).0 mine)
    | inr rest ↦ let at = trail_of path is.1 m is.4 rest in (at.0, inr at.1, at.2)
  ]

  -- no member of a type that isn't on the path is open
  pub none_open : (path trail : List ℕ) (t m : ℕ) → IsTrail members picks path trail → (Has path t → ⊥) → IsOf members t m → Has trail m → ⊥
  none_open path trail t m is off of_ h =
      let at = trail_of path trail m is h in
      off (subst (λ (n : ℕ). Has path n) (one_owner members at.0 t m at.2.0 of_) at.1)

  -- a type is entered, and left again
  pub trail_more : (path own before after : List ℕ) (t : ℕ) → ((m : ℕ) → Contains own m ↔ IsOf members t m) → IsTrail members picks path before → AreMore picks own before after → IsTrail members picks (t ∷ path) after
  trail_more path own before after t exact is more = (
    more.0,
    before,
    more.1,
    λ m. (
      (λ h. let both = (more.2 m).0 h in ((exact m).0 both.0, both.1)),
      (λ picked. (more.2 m).1 ((exact m).1 picked.0, picked.1)),
    ),
    is,
  )

  same_rest : (t : ℕ) (mine gone rest after : List ℕ) → mine ++ rest ≡ gone ++ after → ((m : ℕ) → Has mine m → IsOf members t m) → ((m : ℕ) → Has gone m → IsOf members t m) → ((m : ℕ) → Has rest m → IsOf members t m → ⊥) → IsClearOf members t after → rest ≡ after
  same_rest t [] [] rest after e ours theirs off clear = e
  same_rest t [] (y ∷ gone) rest after e ours theirs off clear = absurd (off y (subst (λ (l : List ℕ). Has l y) (sym e) (inl refl)) (theirs y (inl refl)))
  same_rest t (x ∷ mine) [] rest after e ours theirs off clear =
      let no : IsClearOf members t (x ∷ (mine ++ rest)) = subst (λ (l : List ℕ). IsClearOf members t l) (sym e) clear in
      absurd (no (ours x (inl refl)))
  same_rest t (x ∷ mine) (y ∷ gone) rest after e ours theirs off clear =
      let tails : mine ++ rest ≡ gone ++ after = cc in
      same_rest t mine gone rest after tails (λ m h. ours m (inr h)) (λ m h. theirs m (inr h)) off clear

  pub trail_less : (path before after : List ℕ) (t : ℕ) → (Has path t → ⊥) → IsTrail members picks (t ∷ path) before → AreLess members t before after → IsTrail members picks path after
  trail_less path before after t off is less =
      let e = same_rest t is.0 less.0 is.1 after (sym is.2 ∙ less.1) (λ m h. ((is.3 m).0 h).0) less.2 (λ m h of_. none_open path is.1 t m is.4 off of_ h) less.3 in
      subst (λ (l : List ℕ). IsTrail members picks path l) e is.4

  -- the first in a trail stands in the innermost type, or in the path above it
  pub first_cases : (Fact : ℕ → Type 0) (mine rest : List ℕ) (n : ℕ) → FirstIn Fact (mine ++ rest) n → (Has mine n × Fact n) ⊎ (((m : ℕ) → Has mine m → Fact m → ⊥) × FirstIn Fact rest n)
  first_cases Fact [] rest n first = inr ((λ m h fact. h), first)
  first_cases Fact (x ∷ mine) rest n (inl one) = inl (inl one.0, one.1)
  first_cases Fact (x ∷ mine) rest n (inr more) = elim (first_cases Fact mine rest n more.1) [
    | inl there ↦ inl (inr there.0, there.1)
    | inr up ↦ inr (
      (λ m h fact. elim h [
        | inl e ↦ more.0 (subst Fact (sym e) fact)
        | inr k ↦ up.0 m k fact
      ]),
      up.1,
    )
  ]

  pub first_has : (Fact : ℕ → Type 0) (trail : List ℕ) (n : ℕ) → FirstIn Fact trail n → Has trail n × Fact n
  first_has Fact [] n first = absurd first
  first_has Fact (x ∷ trail) n (inl one) = (inl one.0, one.1)
  first_has Fact (x ∷ trail) n (inr more) = let at = first_has Fact trail n more.1 in (inr at.0, at.1)
