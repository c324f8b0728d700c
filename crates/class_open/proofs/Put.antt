-- One number more in front, and one less.
use Rattle.std.proofs.Common.{◌≡◌, ℕ, zero, suc, ◌<◌, true, false, eqb, Option, Some, None, List, [], ◌∷◌, length, replicate, set, inl, inr, sym, refl, ap, subst, ◌∙◌, arith}
use Rattle.std.proofs.Math.ListN.{length-set}
use Rattle.std.proofs.lemmas.Bool.{eqb-true, eqb-false}
use Rattle.std.proofs.lemmas.List.{length-replicate}
use Rattle.std.proofs.lemmas.Option.{slice_get_within}
use Rattle.std.specs.List.{slice_get}
use Rattle.class_chains.proofs.Marks.{set_at}
use Rattle.class_keys.proofs.Items.{one_item, item_at}
use Rattle.class_open.specs.Trail.{Has}
use Rattle.class_open.specs.Stacks.{AreOnce, Leads, AreStacked}

pub set_other : {X : Type 0} (xs : List X) (i j : ℕ) (x : X) → (i ≡ j → ⊥) → slice_get (set xs i x) j ≡ slice_get xs j
set_other [] i j x apart = refl
set_other (y ∷ ys) zero zero x apart = absurd (apart refl)
set_other (y ∷ ys) zero (suc j) x apart = refl
set_other (y ∷ ys) (suc i) zero x apart = refl
set_other (y ∷ ys) (suc i) (suc j) x apart = set_other ys i j x (λ e. apart (ap suc e))

some_number : (a b : ℕ) → Some a ≡ Some b → a ≡ b
some_number a b h = cc

none_there : (n s : ℕ) (top : Option ℕ) → slice_get (replicate n None) s ≡ Some top → top ≡ None
none_there zero s top h = let e : None ≡ Some top = h in absurd cc
none_there (suc n) zero top h = let e : Some None ≡ Some top = h in cc
none_there (suc n) (suc s) top h = none_there n s top h

pub none_stacked : (signs : List ℕ) (tops below : List (Option ℕ)) (trail : List ℕ) → ((m s : ℕ) → slice_get signs m ≡ Some s → s < length signs) → tops ≡ replicate (length signs) None → below ≡ replicate (length signs) None → trail ≡ [] → AreStacked signs tops below trail
none_stacked signs tops below trail small none none_below empty = record {
  small = λ m s at. let lt = small m s at in let long = ap length none ∙ length-replicate (length signs) None in omega (arith, lt, long);
  long = ap length none_below ∙ length-replicate (length signs) None;
  within = λ m has. let no : Has [] m = subst (λ (l : List ℕ). Has l m) empty has in absurd no;
  once = subst (λ (l : List ℕ). AreOnce l) (sym empty) tt;
  leads = λ s top at.
      subst (λ (l : List ℕ). Leads signs below s l top) (sym empty)
      (none_there (length signs) s top (ap (λ (l : List (Option ℕ)). slice_get l s) (sym none) ∙ at));
}

-- what stands below other numbers tells nothing of these
leads_kept : (signs : List ℕ) (below : List (Option ℕ)) (s m : ℕ) (x : Option ℕ) (trail : List ℕ) (from_ : Option ℕ) → (Has trail m → ⊥) → Leads signs below s trail from_ → Leads signs (set below m x) s trail from_
leads_kept signs below s m x [] from_ off leads = leads
leads_kept signs below s m x (n ∷ trail) from_ off (inl skip) = inl (skip.0, leads_kept signs below s m x trail from_ (λ h. off (inr h)) skip.1)
leads_kept signs below s m x (n ∷ trail) from_ off (inr one) =
    inr (one.0, one.1, one.2, set_other below m n x (λ e. off (inl (sym e))) ∙ one.3, leads_kept signs below s m x trail one.2 (λ h. off (inr h)) one.4)

pub pushed : (signs : List ℕ) (tops below : List (Option ℕ)) (trail : List ℕ) (m s : ℕ) (top : Option ℕ) → AreStacked signs tops below trail → slice_get signs m ≡ Some s → slice_get tops s ≡ Some top → (Has trail m → ⊥) → AreStacked signs (set tops s (Some m)) (set below m top) (m ∷ trail)
pushed signs tops below trail m s top are sign at fresh = record {
  small = λ n r there. let lt = are.small n r there in let same = length-set tops s (Some m) in omega (arith, lt, same);
  long = length-set below m top ∙ are.long;
  within = λ n has. elim has [
    | inl e ↦ subst (λ (k : ℕ). k < length signs) e (slice_get_within signs m s sign)
    | inr h ↦ are.within n h
  ];
  once = (fresh, are.once);
  leads = λ r o there. elim (eqb s r) as (λ b. eqb s r ≡ b → Leads signs (set below m top) r (m ∷ trail) o) [
    | true ↦ λ e.
        let same = eqb-true s r e in
        let here : slice_get (set tops s (Some m)) s ≡ Some o = ap (λ (k : ℕ). slice_get (set tops s (Some m)) k) same ∙ there in
        let is : Some m ≡ o = one_item (set tops s (Some m)) s (Some m) o (set_at tops s (Some m) (slice_get_within tops s top at)) here in
        inr (
          sign ∙ ap Some same,
          sym is,
          top,
          set_at below m top (let lt = slice_get_within signs m s sign in let long = are.long in omega (arith, lt, long)),
          subst (λ (k : ℕ). Leads signs (set below m top) k trail top) same (leads_kept signs below s m top trail top fresh (are.leads s top at)),
        )
    | false ↦ λ e.
        let off = eqb-false s r e in
        inl (
          (λ h. off (some_number s r (sym sign ∙ h))),
          leads_kept signs below r m top trail o fresh (are.leads r o (sym (set_other tops s r (Some m) off) ∙ there)),
        )
  ] refl;
}

-- what leads a number's stack below it
led_below : (signs : List ℕ) (below : List (Option ℕ)) (m s : ℕ) (trail : List ℕ) (from_ o : Option ℕ) → slice_get signs m ≡ Some s → slice_get below m ≡ Some o → Leads signs below s (m ∷ trail) from_ → Leads signs below s trail o
led_below signs below m s trail from_ o sign at (inl skip) = absurd (skip.0 sign)
led_below signs below m s trail from_ o sign at (inr one) = subst (λ (x : Option ℕ). Leads signs below s trail x) (one_item below m one.2 o one.3 at) one.4

led_past : (signs : List ℕ) (below : List (Option ℕ)) (m r : ℕ) (trail : List ℕ) (from_ : Option ℕ) → (slice_get signs m ≡ Some r → ⊥) → Leads signs below r (m ∷ trail) from_ → Leads signs below r trail from_
led_past signs below m r trail from_ off (inl skip) = skip.1
led_past signs below m r trail from_ off (inr one) = absurd (off one.0)

pub popped : (signs : List ℕ) (tops below : List (Option ℕ)) (trail : List ℕ) (m s : ℕ) (o : Option ℕ) → AreStacked signs tops below (m ∷ trail) → slice_get signs m ≡ Some s → slice_get below m ≡ Some o → AreStacked signs (set tops s o) below trail
popped signs tops below trail m s o are sign at = record {
  small = λ n r there. let lt = are.small n r there in let same = length-set tops s o in omega (arith, lt, same);
  long = are.long;
  within = λ n has. are.within n (inr has);
  once = are.once.1;
  leads = λ r x there. elim (eqb s r) as (λ b. eqb s r ≡ b → Leads signs below r trail x) [
    | true ↦ λ e.
        let same = eqb-true s r e in
        let lt = are.small m s sign in
        let was = item_at tops s lt in
        let here : slice_get (set tops s o) s ≡ Some x = ap (λ (k : ℕ). slice_get (set tops s o) k) same ∙ there in
        let is : o ≡ x = one_item (set tops s o) s o x (set_at tops s o lt) here in
        subst (λ (k : ℕ). Leads signs below k trail x) same
        (subst (λ (y : Option ℕ). Leads signs below s trail y) is (led_below signs below m s trail was.0 o sign at (are.leads s was.0 was.1)))
    | false ↦ λ e.
        let off = eqb-false s r e in
        led_past signs below m r trail x (λ h. off (some_number s r (sym sign ∙ h))) (are.leads r x (sym (set_other tops s r o off) ∙ there))
  ] refl;
}
