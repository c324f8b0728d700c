-- Tables that tell of more and more types.
use Rattle.std.proofs.Common.{◌≡◌, ◌⊎◌, ℕ, zero, suc, ◌+◌, ◌<◌, ◌≤◌, Bool, true, false, Option, Some, None, List, [], ◌∷◌, ◌++◌, length, map, take, drop, nat_eq, eqb, set, get_or, inl, inr, sym, refl, ap, subst, ◌∙◌, ◌||◌, arith, append-nil}
use Rattle.std.proofs.lemmas.Option.{slice_get_within, slice_get_past, slice_get-get_or, get_or_from_slice_get}
use Rattle.std.specs.List.{slice_get}
use Rattle.std.proofs.Math.ListN.{length-set, drop_of_length-le}
use Rattle.std.proofs.Math.Seq.{take-length}
use Rattle.class_chains.specs.Ends.{IsAboveFirst}
use Rattle.class_parts.proofs.Climb.{height, lower}
use Rattle.class_rows.specs.declared.row.TypeRow.{TypeRow}
use Rattle.class_rows.specs.Types.{IsAbove, IsNamed, NamesInterface}
use Rattle.class_spread.specs.declared.spread.Spread.{Spread}
use Rattle.class_spread.specs.Spreads.{IsTold, ended, further, IsSpreadOut, IsRight, LinksGoUp, AreSpreads}
use Rattle.class_spread.specs.Filled.{added, IsFilled, IsSoFar, IsFurther, IsSpreadFor, Tells}
use Rattle.class_spread.proofs.Firsts.{has, added-append}
use Rattle.class_spread.proofs.Out.{out_to, out_back, named_first, or_left, out_single}
use Rattle.std.specs.Prelude.{option_map}
use Rattle.std.specs.Option.{is_some}
use Rattle.dc_base.specs.declared.names.TypeId.{TypeId}
use Rattle.std.proofs.lemmas.Bool.{cases_lt, eqb-true, eqb-false}
use Rattle.std.proofs.lemmas.List.Folds.{list_any-append}

-- what is told of a type begins with what the table tells of it by itself
pub told_by : (table : List (Option Spread)) (t : ℕ) (list : List ℕ) → IsTold table t list → (s : Spread) × (slice_get table t ≡ Some (Some s)) × Tells table s list
told_by table t list (ended u s stands top) = (s, stands, inl (top, refl))
told_by table t list (further u b s rest stands on told) = (s, stands, inr (b, rest, on, told, refl))

one_item : (table : List (Option Spread)) (t : ℕ) (a b : Spread) → slice_get table t ≡ Some (Some a) → slice_get table t ≡ Some (Some b) → a ≡ b
one_item table t a b p q = let e : Some (Some a) ≡ Some (Some b) = sym p ∙ q in cc

pub told_here : (table : List (Option Spread)) (t : ℕ) (s : Spread) (list : List ℕ) → slice_get table t ≡ Some (Some s) → IsTold table t list → Tells table s list
told_here table t s list stands told =
    let by = told_by table t list told in
    subst (λ (r : Spread). Tells table r list) (one_item table t by.0 s by.1 stands) by.2

tells_top : (table : List (Option Spread)) (s : Spread) (list : List ℕ) → s.onward ≡ None → Tells table s list → list ≡ s.own
tells_top table s list top (inl here) = sym here.1
tells_top table s list top (inr on) = let e : None ≡ Some on.0 = sym top ∙ on.2 in cc

tells_on : (table : List (Option Spread)) (s : Spread) (list : List ℕ) (b : ℕ) → s.onward ≡ Some b → Tells table s list → (rest : List ℕ) × IsTold table b rest × (list ≡ s.own ++ rest)
tells_on table s list b on (inl here) = let e : Some b ≡ None = sym on ∙ here.0 in cc
tells_on table s list b on (inr more_) =
    let e : Some more_.0 ≡ Some b = sym more_.2 ∙ on in
    let same : more_.0 ≡ b = cc in
    (more_.1, subst (λ (n : ℕ). IsTold table n more_.1) same more_.3, more_.4)

-- the walk stands at a type, and the rest is still to be added
abbrev pub IsFollowed : List (Option Spread) → ℕ → List ℕ → ℕ → List ℕ → Type 0
IsFollowed table t before at after =
    (list : List ℕ) → IsTold table t list → (rest : List ℕ) × IsTold table at rest × (added before list ≡ added after rest)

pub followed_on : (table : List (Option Spread)) (t at b : ℕ) (before after now_ : List ℕ) (s : Spread) → IsFollowed table t before at after → slice_get table at ≡ Some (Some s) → s.onward ≡ Some b → now_ ≡ added after s.own → IsFollowed table t before b now_
followed_on table t at b before after now_ s followed stands on e list told =
    let f = followed list told in
    let rest = tells_on table s f.0 b on (told_here table at s f.0 stands f.1) in
    (rest.0, rest.1, f.2 ∙ ap (λ (xs : List ℕ). added after xs) rest.2 ∙ added-append after s.own rest.0 ∙ ap (λ (ks : List ℕ). added ks rest.0) (sym e))

pub followed_top : (table : List (Option Spread)) (t at : ℕ) (before after now_ : List ℕ) (s : Spread) → IsFollowed table t before at after → slice_get table at ≡ Some (Some s) → s.onward ≡ None → now_ ≡ added after s.own → (list : List ℕ) → IsTold table t list → now_ ≡ added before list
followed_top table t at before after now_ s followed stands top e list told =
    let f = followed list told in
    let own = tells_top table s f.0 top (told_here table at s f.0 stands f.1) in
    e ∙ ap (λ (xs : List ℕ). added after xs) (sym own) ∙ sym f.2

pub not_followed : (table : List (Option Spread)) (t at : ℕ) (before after : List ℕ) → IsFollowed table t before at after → ((s : Spread) → slice_get table at ≡ Some (Some s) → ⊥) → (list : List ℕ) → IsTold table t list → after ≡ added before list
not_followed table t at before after followed none_ list told =
    let f = followed list told in
    let by = told_by table at f.0 f.1 in
    absurd (none_ by.0 by.1)

-- a link leads nearer to the top
pub link_lower : (types : List TypeRow) (order : List ℕ) (table : List (Option Spread)) (at b : ℕ) (s : Spread) → IsAboveFirst (IsAbove types) (length types) order → LinksGoUp types table → slice_get table at ≡ Some (Some s) → s.onward ≡ Some b → height (length types) order b < height (length types) order at
link_lower types order table at b s first links stands on =
    let named = links at b s stands on in
    lower (IsAbove types) (length types) order at b first (slice_get_within types at named.row named.stands) (inr named)

-- what is to be told of a type that names one interface, or any other
pub single_for : (types : List TypeRow) (order : List ℕ) (table : List (Option Spread)) (t only : ℕ) (row : TypeRow) (own : List ℕ) → IsAboveFirst (IsAbove types) (length types) order → IsSoFar types table → slice_get types t ≡ Some row → row.bases ≡ record { 0 = only } ∷ [] → own ≡ only ∷ [] → IsFilled table only → IsSpreadFor types table t (record { own = own; onward = Some only })
single_for types order table t only row own first so_far stands e own_is filled =
    let r = so_far.right only filled in
    let P : List ℕ → Type 0 = λ xs. IsSpreadFor types table t (record { own = xs; onward = Some only }) in
    subst P (sym own_is) (record {
      named = only ∷ [];
      are_named = record { row = row; stands = stands; is = ap (λ (is : List TypeId). map (λ (i : TypeId). i.0) is) e };
      list = only ∷ r.list;
      tells = inr (only, r.list, refl, r.told, refl);
      out = out_single types order first only r.named r.list r.are_named r.out;
      link = λ b link. record { row = row; stands = stands; is = (0, ap (λ (is : List TypeId). slice_get is 0) e ∙ ap (λ (o : Option ℕ). option_map (λ (n : ℕ). record { 0 = n }) o) link) };
    })

pub several_for : (types : List TypeRow) (table : List (Option Spread)) (t : ℕ) (row : TypeRow) (own : List ℕ) → slice_get types t ≡ Some row → IsSpreadOut types (map (λ (i : TypeId). i.0) row.bases) own → IsSpreadFor types table t (record { own = own; onward = None })
several_for types table t row own stands out = record {
  named = map (λ (i : TypeId). i.0) row.bases;
  are_named = record { row = row; stands = stands; is = refl };
  list = own;
  tells = inl (refl, refl);
  out = out;
  link = λ b link. let e : None ≡ Some b = link in cc;
}

pub row_at : {X : Type 0} (xs : List X) (t : ℕ) (x : X) → t < length xs → x ≡ get_or xs t x → slice_get xs t ≡ Some x
row_at xs t x lt is = slice_get-get_or xs t x lt ∙ ap Some (sym is)

pub one_of : {X : Type 0} (xs : List X) (d : X) → 1 ≤ length xs → length xs < 2 → xs ≡ get_or xs 0 d ∷ []
one_of [] d low high = absurd (omega arith)
one_of (x ∷ []) d low high = refl
one_of (x ∷ (y ∷ xs)) d low high = absurd (omega arith)

-- where a hunt for a number among those told of a type stands: what is still told has it just where the type names it in
-- turn; of no type past the list anything is told
pub record IsOnHunt (types : List TypeRow) (table : List (Option Spread)) (t x at : ℕ) : Type 0 where
  pub rest : List ℕ
  pub told : IsTold table at rest
  pub to_ : has x rest ≡ true → NamesInterface types t x
  pub back : NamesInterface types t x → has x rest ≡ true

abbrev pub IsHunt : List TypeRow → List (Option Spread) → ℕ → ℕ → ℕ → Type 0
IsHunt types table t x at = ((at ≡ t) × (length types ≤ t)) ⊎ IsOnHunt types table t x at

pub hunt_begins : (types : List TypeRow) (table : List (Option Spread)) (t x : ℕ) → AreSpreads types table → IsHunt types table t x t
hunt_begins types table t x spreads = elim (cases_lt t (length types)) [
  | inl lt ↦ let r = spreads.right t lt in
      inr (record { rest = r.list; told = r.told; to_ = out_to types t r.named r.list r.are_named r.out x; back = out_back types t r.named r.list r.are_named r.out x })
  | inr le ↦ inl (refl, le)
]

on_hunt : (types : List TypeRow) (table : List (Option Spread)) (t x at : ℕ) (s : Spread) → AreSpreads types table → IsHunt types table t x at → slice_get table at ≡ Some (Some s) → IsOnHunt types table t x at
on_hunt types table t x at s spreads (inl off) stands =
    let e : None ≡ Some (Some s) = sym (spreads.within at (omega (arith, off.0, off.1))) ∙ stands in cc
on_hunt types table t x at s spreads (inr on) stands = on

told_has : (table : List (Option Spread)) (s : Spread) (list : List ℕ) (x : ℕ) → Tells table s list → has x s.own ≡ true → has x list ≡ true
told_has table s list x (inl here) h = subst (λ (xs : List ℕ). has x xs ≡ true) here.1 h
told_has table s list x (inr on) h = subst (λ (xs : List ℕ). has x xs ≡ true) (sym on.4) (list_any-append (nat_eq x) s.own on.1 ∙ or_left (has x s.own) (has x on.1) h)

pub hunt_found : (types : List TypeRow) (table : List (Option Spread)) (t x at : ℕ) (s : Spread) → AreSpreads types table → IsHunt types table t x at → slice_get table at ≡ Some (Some s) → has x s.own ≡ true → NamesInterface types t x
hunt_found types table t x at s spreads hunt stands h =
    let on = on_hunt types table t x at s spreads hunt stands in
    on.to_ (told_has table s on.rest x (told_here table at s on.rest stands on.told) h)

pub hunt_on : (types : List TypeRow) (table : List (Option Spread)) (t x at b : ℕ) (s : Spread) → AreSpreads types table → IsHunt types table t x at → slice_get table at ≡ Some (Some s) → has x s.own ≡ false → s.onward ≡ Some b → IsHunt types table t x b
hunt_on types table t x at b s spreads hunt stands apart link =
    let on = on_hunt types table t x at s spreads hunt stands in
    let rest = tells_on table s on.rest b link (told_here table at s on.rest stands on.told) in
    let same : has x on.rest ≡ has x rest.0 = ap (λ (xs : List ℕ). has x xs) rest.2 ∙ list_any-append (nat_eq x) s.own rest.0 ∙ ap (λ (c : Bool). c || has x rest.0) apart in
    inr (record { rest = rest.0; told = rest.1; to_ = λ h. on.to_ (same ∙ h); back = λ n. sym same ∙ on.back n })

pub hunt_lost : (types : List TypeRow) (table : List (Option Spread)) (t x at : ℕ) (s : Spread) → AreSpreads types table → IsHunt types table t x at → slice_get table at ≡ Some (Some s) → has x s.own ≡ false → s.onward ≡ None → NamesInterface types t x → ⊥
hunt_lost types table t x at s spreads hunt stands apart top names =
    let on = on_hunt types table t x at s spreads hunt stands in
    let own = tells_top table s on.rest top (told_here table at s on.rest stands on.told) in
    let e : true ≡ false = sym (on.back names) ∙ ap (λ (xs : List ℕ). has x xs) own ∙ apart in cc

pub hunt_off : (types : List TypeRow) (table : List (Option Spread)) (t x at : ℕ) → AreSpreads types table → IsHunt types table t x at → ((s : Spread) → slice_get table at ≡ Some (Some s) → ⊥) → NamesInterface types t x → ⊥
hunt_off types table t x at spreads (inl off) none_ names =
    let step = named_first types t x names in
    let lt = slice_get_within types t step.1.row step.1.stands in omega (arith, lt, off.1)
hunt_off types table t x at spreads (inr on) none_ names =
    let by = told_by table at on.rest on.told in none_ by.0 by.1

-- an empty table
pub none_filled : (table : List (Option Spread)) → ((t : ℕ) → IsFilled table t → ⊥) → (t : ℕ) → IsFilled (table ++ (None ∷ [])) t → ⊥
none_filled [] none_ zero filled = let e : Some None ≡ Some (Some filled.0) = filled.1 in cc
none_filled [] none_ (suc t) filled = let e : None ≡ Some (Some filled.0) = filled.1 in cc
none_filled (x ∷ xs) none_ zero filled = none_ 0 filled
none_filled (x ∷ xs) none_ (suc t) filled = none_filled xs (λ u f. none_ (suc u) f) t filled

pub nothing_told : (types : List TypeRow) (table : List (Option Spread)) → length table ≡ length types → ((t : ℕ) → IsFilled table t → ⊥) → IsSoFar types table
nothing_told types table long none_ = record {
  long = long;
  links = λ t b s stands link. absurd (none_ t (s, stands));
  right = λ t filled. absurd (none_ t filled);
}

pub as_before : (types : List TypeRow) (table : List (Option Spread)) (t : ℕ) → IsSoFar types table → IsFilled table t → IsFurther types table table t
as_before types table t so_far filled = record { so_far = so_far; filled = filled; kept = λ i f. f }

-- one more type is told
set_other : {X : Type 0} (xs : List X) (i j : ℕ) (x : X) → (i ≡ j → ⊥) → slice_get (set xs i x) j ≡ slice_get xs j
set_other [] i j x apart = refl
set_other (y ∷ ys) zero zero x apart = absurd (apart refl)
set_other (y ∷ ys) zero (suc j) x apart = refl
set_other (y ∷ ys) (suc i) zero x apart = refl
set_other (y ∷ ys) (suc i) (suc j) x apart = set_other ys i j x (λ e. apart (ap suc e))

set_here : {X : Type 0} (xs : List X) (i : ℕ) (x : X) → i < length xs → slice_get (set xs i x) i ≡ Some x
set_here [] i x lt = absurd (omega arith)
set_here (y ∷ ys) zero x lt = refl
set_here (y ∷ ys) (suc i) x lt = set_here ys i x (omega arith)

module _ (types : List TypeRow) (table : List (Option Spread)) (t : ℕ) (s : Spread) (open_ : slice_get table t ≡ Some None) where
  apart_from : (u : ℕ) → IsFilled table u → t ≡ u → ⊥
  apart_from u filled e = let k : Some None ≡ Some (Some filled.0) = sym open_ ∙ ap (λ (n : ℕ). slice_get table n) e ∙ filled.1 in cc

  kept_here : (u : ℕ) (r : Spread) → slice_get table u ≡ Some (Some r) → slice_get (set table t (Some s)) u ≡ Some (Some r)
  kept_here u r stands = set_other table t u (Some s) (apart_from u (r, stands)) ∙ stands

  told_kept : (u : ℕ) (list : List ℕ) → IsTold table u list → IsTold (set table t (Some s)) u list
  told_kept u list (ended v r stands top) = ended v r (kept_here v r stands) top
  told_kept u list (further v b r rest stands on told) = further v b r rest (kept_here v r stands) on (told_kept b rest told)

  set_at : (u : ℕ) (r : Spread) → slice_get (set table t (Some s)) u ≡ Some (Some r) → ((t ≡ u) × (s ≡ r)) ⊎ (slice_get table u ≡ Some (Some r))
  set_at u r stands = elim (eqb t u) as (λ b. eqb t u ≡ b → ((t ≡ u) × (s ≡ r)) ⊎ (slice_get table u ≡ Some (Some r))) [
    | true ↦ λ e. let same = eqb-true t u e in
        let lt = slice_get_within table t None open_ in
        let k : Some (Some s) ≡ Some (Some r) = sym (set_here table t (Some s) lt) ∙ ap (λ (n : ℕ). slice_get (set table t (Some s)) n) same ∙ stands in
        let k2 : s ≡ r = cc in
        inl (same, k2)
    | false ↦ λ e. inr (sym (set_other table t u (Some s) (eqb-false t u e)) ∙ stands)
  ] refl

  told_new : (list : List ℕ) → Tells table s list → IsTold (set table t (Some s)) t list
  told_new list (inl here) = subst (λ (xs : List ℕ). IsTold (set table t (Some s)) t xs) here.1 (ended t s (set_here table t (Some s) (slice_get_within table t None open_)) here.0)
  told_new list (inr on) = subst (λ (xs : List ℕ). IsTold (set table t (Some s)) t xs) (sym on.4) (further t on.0 s on.1 (set_here table t (Some s) (slice_get_within table t None open_)) on.2 (told_kept on.0 on.1 on.3))

  right_kept : (u : ℕ) → IsRight types table u → IsRight types (set table t (Some s)) u
  right_kept u r = record { named = r.named; are_named = r.are_named; list = r.list; told = told_kept u r.list r.told; out = r.out }

  pub one_further : IsSoFar types table → IsSpreadFor types table t s → IsFurther types table (set table t (Some s)) t
  one_further so_far spread = record {
    so_far = record {
      long = length-set table t (Some s) ∙ so_far.long;
      links = λ u b r stands on. elim (set_at u r stands) [
        | inl e ↦ subst (λ (n : ℕ). IsNamed types n b) e.0 (spread.link b (ap (λ (x : Spread). x.onward) e.1 ∙ on))
        | inr there ↦ so_far.links u b r there on
      ];
      right = λ u filled. elim (set_at u filled.0 filled.1) [
        | inl e ↦ subst (λ (n : ℕ). IsRight types (set table t (Some s)) n) e.0 (record { named = spread.named; are_named = spread.are_named; list = spread.list; told = told_new spread.list spread.tells; out = spread.out })
        | inr there ↦ right_kept u (so_far.right u (filled.0, there))
      ];
    };
    filled = (s, set_here table t (Some s) (slice_get_within table t None open_));
    kept = λ i f. (f.0, kept_here i f.0 f.1);
  }

pub none_from : (table : List (Option Spread)) (t : ℕ) (o : Option Spread) → slice_get table t ≡ Some o → is_some o ≡ false → slice_get table t ≡ Some None
none_from table t None stands h = stands
none_from table t (Some s) stands h = let e : true ≡ false = h in cc

pub some_from : (table : List (Option Spread)) (t : ℕ) (o : Option Spread) → slice_get table t ≡ Some o → is_some o ≡ true → IsFilled table t
some_from table t None stands h = let e : false ≡ true = h in cc
some_from table t (Some s) stands h = (s, stands)

-- every type is told
pub all_told : (types : List TypeRow) (table : List (Option Spread)) → IsSoFar types table → ((t : ℕ) → t < length types → IsFilled table t) → AreSpreads types table
all_told types table so_far filled = record {
  links = so_far.links;
  right = λ t lt. so_far.right t (filled t lt);
  within = λ t le. slice_get_past table t (omega (arith, so_far.long));
}

-- a list written back over one that is as long
pub written_back : {X : Type 0} (new_ old_ : List X) (n : ℕ) → length new_ ≡ n → length old_ ≡ n → take n (new_ ++ drop (length new_) old_) ≡ new_
written_back new_ old_ n long as_long =
    let rest : drop (length new_) old_ ≡ [] = drop_of_length-le old_ (omega (arith, long, as_long)) in
    ap (λ xs. take n (new_ ++ xs)) rest ∙ ap (λ xs. take n xs) (append-nil new_) ∙ ap (λ k. take k new_) (sym long) ∙ take-length new_

-- the next of the order is told
pub so_far_more : (types : List TypeRow) (order : List ℕ) (before after : List (Option Spread)) (k d : ℕ) → k < length order → ((j u : ℕ) → j < k → slice_get order j ≡ Some u → IsFilled before u) → IsFurther types before after (get_or order k d) → (j u : ℕ) → j < k + 1 → slice_get order j ≡ Some u → IsFilled after u
so_far_more types order before after k d lt told further_ j u low at = elim (cases_lt j k) [
  | inl less ↦ further_.kept u (told j u less at)
  | inr ge ↦
      let same : j ≡ k = omega arith in
      let e : get_or order j d ≡ u = get_or_from_slice_get order j u d at in
      subst (λ (n : ℕ). IsFilled after n) (ap (λ (m : ℕ). get_or order m d) (sym same) ∙ e) further_.filled
]
