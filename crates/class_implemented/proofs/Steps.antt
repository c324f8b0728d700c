-- The least missing method of each type, on a walk over the tree of bases.
use Rattle.std.proofs.Common.{◌≡◌, ◌<◌, ◌≤◌, ◌+◌, ℕ, true, false, eqb, Bool, Option, Some, None, List, [], ◌∷◌, length, replicate, set, drop, get_or, add-one, drop-cons, inl, inr, refl, sym, ap, subst, ◌∙◌, arith}
use Rattle.std.proofs.Math.ListN.{length-set}
use Rattle.std.proofs.lemmas.Bool.{cases_lt, eqb-true, eqb-false}
use Rattle.std.proofs.lemmas.List.{length-replicate}
use Rattle.std.proofs.lemmas.Option.{slice_get_within}
use Rattle.std.specs.List.{slice_get}
use Rattle.std.specs.Prelude.{IfOk, Result, Ok, Err}
use Rattle.dc_base.specs.declared.failure.NoMemory.{NoMemory}
use Rattle.class_chains.proofs.Marks.{set_at}
use Rattle.class_keys.specs.Least.{IsLeastOf}
use Rattle.class_keys.proofs.Items.{one_item}
use Rattle.class_open.proofs.Put.{set_other}
use Rattle.class_walk.specs.declared.walk.Step.{Step}
use Rattle.class_walk.specs.declared.walk.Step.TheVariants.{Enter, Leave}
use Rattle.class_walk.specs.Walk.{IsBelow, IsWalk, IsWholeWalk}
use Rattle.class_implemented.specs.declared.known.Known.{Known}
use Rattle.class_implemented.specs.declared.walked.Progress.{Progress}
use Rattle.class_implemented.specs.Open.{IsMissing, AreClean, ArePassed}
use Rattle.class_implemented.specs.Standing.{IsStanding}
use Rattle.class_implemented.proofs.Stand.{none_up, none_marked}
use Rattle.class_implemented.specs.Progress.{IsAt, IsTold, IsToldWith, IsStepTold, AreTold, AreLeast}

module _ (known : Known) where
  pub at_with : (p q : Progress) (path : List ℕ) (t : ℕ) (found : Option ℕ) → IsAt known path p → IsStanding known (t ∷ path) q.standing → AreClean known q.marks.clean.items → ArePassed known q.marks.passed.items → q.least.items ≡ set p.least.items t found → IsAt known (t ∷ path) q
  at_with p q path t found at standing clean passed least = record {
    standing = standing;
    clean = clean;
    passed = passed;
    long = ap length least ∙ length-set p.least.items t found ∙ at.long;
  }

  pub told_set : (least : List (Option ℕ)) (t : ℕ) (found : Option ℕ) → IsLeastOf (IsMissing known t) found → IsToldWith known t least (set least t found)
  told_set least t found is = record {
    own = λ o at.
        let lt : t < length least = let in_ = slice_get_within (set least t found) t o at in let long = length-set least t found in omega (arith, in_, long) in
        subst (λ (x : Option ℕ). IsLeastOf (IsMissing known t) x) (one_item (set least t found) t found o (set_at least t found lt) at) is;
    kept = λ u off. set_other least t u found off;
  }

  told_with : (t u : ℕ) (before after : List (Option ℕ)) → IsToldWith known t before after → IsTold known before u → IsTold known after u
  told_with t u before after with_ told o at = elim (eqb t u) as (λ b. eqb t u ≡ b → IsLeastOf (IsMissing known u) o) [
    | true ↦ λ e.
        let same = eqb-true t u e in
        subst (λ (n : ℕ). IsLeastOf (IsMissing known n) o) same (with_.own o (ap (λ (n : ℕ). slice_get after n) same ∙ at))
    | false ↦ λ e. told o (sym (with_.kept u (eqb-false t u e)) ∙ at)
  ] refl

  some_step : (a b : Step) → Some a ≡ Some b → a ≡ b
  some_step a b h = cc

  entered_same : (t u : ℕ) (a b : Step) → a ≡ Enter (record { 0 = t }) → b ≡ Enter (record { 0 = u }) → a ≡ b → t ≡ u
  entered_same t u a b p q e = let o : Enter (record { 0 = t }) ≡ Enter (record { 0 = u }) = sym p ∙ e ∙ q in ap number o
    where
      number : Step → ℕ
      number (Enter i) = i.0
      number (Leave i) = i.0

  pub told_more : (steps : List Step) (before after : List (Option ℕ)) (k : ℕ) (step : Step) → slice_get steps k ≡ Some step → AreTold known steps before k → IsStepTold known step before after → AreTold known steps after (k + 1)
  told_more steps before after k (Enter t) at told with_ j u lt there = elim (cases_lt j k) [
    | inl less ↦ told_with t.0 u before after with_ (told j u less there)
    | inr ge ↦
        let same : j ≡ k = omega (arith, ge, lt) in
        let e : Enter t ≡ Enter (record { 0 = u }) = some_step _ _ (sym at ∙ ap (λ (i : ℕ). slice_get steps i) (sym same) ∙ there) in
        subst (λ (n : ℕ). IsTold known after n) (entered_same t.0 u (Enter t) (Enter (record { 0 = u })) refl refl e) with_.own
  ]
  told_more steps before after k (Leave t) at told same_ j u lt there = elim (cases_lt j k) [
    | inl less ↦ subst (λ (l : List (Option ℕ)). IsTold known l u) (sym same_) (told j u less there)
    | inr ge ↦
        let same : j ≡ k = omega (arith, ge, lt) in
        let e : Leave t ≡ Enter (record { 0 = u }) = some_step _ _ (sym at ∙ ap (λ (i : ℕ). slice_get steps i) (sym same) ∙ there) in
        absurd cc
  ]

  pub all_told : (steps : List Step) (least : List (Option ℕ)) → IsWholeWalk known.types.now steps → length least ≡ length known.types.now → (k : ℕ) → length steps ≤ k → AreTold known steps least k → AreLeast known least
  all_told steps least whole long k le told = record {
    long = long;
    told = λ t lt. let place = whole.whole t lt in told place.0 t (omega (arith, slice_get_within steps place.0 _ place.1, le)) place.1;
  }

  pub next_step : (path : List ℕ) (steps : List Step) (k : ℕ) (d : Step) → k < length steps → IsWalk known.types.now path (drop k steps) → IsWalk known.types.now path (get_or steps k d ∷ drop (k + 1) steps)
  next_step path steps k d lt walk =
      let e : drop k steps ≡ get_or steps k d ∷ drop (k + 1) steps = rw (add-one, drop-cons steps k d) refl in
      subst (λ (l : List Step). IsWalk known.types.now path l) e walk

  onward : (p q : Progress) (t : ℕ) → ((path : List ℕ) → IsAt known (t ∷ path) p → IsAt known path q) → (path : List ℕ) (rest : List Step) → IsAt known path p → IsWalk known.types.now path (Leave (record { 0 = t }) ∷ rest) → (up : List ℕ) × IsAt known up q × IsWalk known.types.now up rest
  onward p q t next [] rest at walk = absurd walk
  onward p q t next (u ∷ path) rest at walk = (path, next path (subst (λ (n : ℕ). IsAt known (n ∷ path) p) walk.0 at), walk.1)

  pub onward_if : (p : Progress) (t : ℕ) (step : Step) → step ≡ Leave (record { 0 = t }) → (r : Result Progress NoMemory) → IfOk r (λ (new : Progress). (path : List ℕ) → IsAt known (t ∷ path) p → IsAt known path new) → IfOk r (λ (new : Progress). (path : List ℕ) (rest : List Step) → IsAt known path p → IsWalk known.types.now path (step ∷ rest) → (up : List ℕ) × IsAt known up new × IsWalk known.types.now up rest)
  onward_if p t step is (Ok new) next = λ path rest at walk. onward p new t next path rest at (subst (λ (s : Step). IsWalk known.types.now path (s ∷ rest)) is walk)
  onward_if p t step is (Err e) next = tt

  pub entered_if : (p : Progress) (t : ℕ) (step : Step) → step ≡ Enter (record { 0 = t }) → (r : Result Progress NoMemory) → IfOk r (λ (new : Progress). (path : List ℕ) → IsAt known path p → IsBelow known.types.now path t → IsAt known (t ∷ path) new) → IfOk r (λ (new : Progress). (path : List ℕ) (rest : List Step) → IsAt known path p → IsWalk known.types.now path (step ∷ rest) → (up : List ℕ) × IsAt known up new × IsWalk known.types.now up rest)
  entered_if p t step is (Ok new) next = λ path rest at walk.
      let w : IsWalk known.types.now path (Enter (record { 0 = t }) ∷ rest) = subst (λ (s : Step). IsWalk known.types.now path (s ∷ rest)) is walk in
      (t ∷ path, next path at w.0, w.1)
  entered_if p t step is (Err e) next = tt

  -- before the first step
  pub at_first : (p : Progress) → IsStanding known [] p.standing → p.marks.clean.items ≡ replicate (length known.types.now) false → p.marks.passed.items ≡ replicate (length known.types.now) None → p.least.items ≡ replicate (length known.types.now) None → IsAt known [] p
  at_first p standing downs nones least = record {
    standing = standing;
    clean = λ t up. absurd (none_up (length known.types.now) t (ap (λ (l : List Bool). slice_get l t) (sym downs) ∙ up));
    passed = λ t c at. absurd (none_marked (length known.types.now) t c (ap (λ (l : List (Option ℕ)). slice_get l t) (sym nones) ∙ at));
    long = ap length least ∙ length-replicate (length known.types.now) None;
  }
