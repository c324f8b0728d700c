-- Steps along what is left.
use Rattle.std.proofs.Common.{◌≡◌, ℕ, zero, suc, ◌<◌, ◌≤◌, Bool, true, false, cond, Option, Some, None, List, [], ◌∷◌, ◌++◌, length, nat_lt, nat_eq, sym, refl, ap, subst, ◌∙◌, arith, append-nil}
use Rattle.std.specs.List.{slice_get}
use Rattle.std.specs.Prelude.{IfSome, IfNone}
use Rattle.dc_base.specs.declared.names.TypeId.{TypeId}
use Rattle.class_chains.specs.Ends.{IsAboveFirst}
use Rattle.class_parts.proofs.Climb.{height, first_place, lower_base}
use Rattle.class_rows.specs.declared.row.TypeRow.{TypeRow}
use Rattle.class_rows.specs.Types.{IsBase, IsAbove}
use Rattle.class_rows.specs.Lookups.{IsChain, ended, longer}
use Rattle.class_spread.specs.declared.spread.Spread.{Spread}
use Rattle.class_spread.specs.Spreads.{IsTold, ended as told_ended, further as told_further, LinksGoUp}
use Rattle.class_spread.proofs.Table.{link_lower}
use Rattle.class_search.specs.Left.{base_at, chain_left, own_at, onward_at, told_left}

-- no number stands further from the top than the order is long
place_short : (order : List ℕ) (t : ℕ) → first_place order t ≤ length order
place_short [] t = omega arith
place_short (x ∷ xs) t = elim (nat_eq x t) as (λ (v : Bool). cond v 0 (suc (first_place xs t)) ≤ suc (length xs)) [
  | true ↦ omega arith
  | false ↦ omega (arith, place_short xs t)
]

pub height_short : (bound : ℕ) (order : List ℕ) (t : ℕ) → height bound order t < suc (suc (length order))
height_short bound order t = elim (nat_lt t bound) as (λ (v : Bool). cond v (suc (first_place order t)) 0 < suc (suc (length order))) [
  | true ↦ omega (arith, place_short order t)
  | false ↦ omega arith
]

-- over how many links the interfaces of a type go on, at most
abbrev pub links_left : List (Option Spread) → ℕ → Option ℕ → ℕ
links_left table zero on = 0
links_left table (suc n) None = 0
links_left table (suc n) (Some t) = suc (links_left table n (onward_at (slice_get table t)))

no_links : (table : List (Option Spread)) (n : ℕ) → links_left table n None ≡ 0
no_links table zero = refl
no_links table (suc n) = refl

-- the base of a row
base_from : (types : List TypeRow) (t : ℕ) (at : Option TypeRow) (b : TypeId) → slice_get types t ≡ at → base_at at ≡ Some b → IsBase types t b.0
base_from types t None b e f = let k : None ≡ Some b = f in cc
base_from types t (Some row) b e f = record { row = row; stands = e; is = f }

pub base_is : (types : List TypeRow) (t : ℕ) (b : TypeId) → base_at (slice_get types t) ≡ Some b → IsBase types t b.0
base_is types t b e = base_from types t (slice_get types t) b refl e

pub is_base : (types : List TypeRow) (t b : ℕ) → IsBase types t b → base_at (slice_get types t) ≡ Some (record { 0 = b })
is_base types t b base = ap base_at base.stands ∙ base.is

-- what a call says of a base is what stands in the row
pub base_from_call : (types : List TypeRow) (t : ℕ) (up : Option TypeId) → IfSome up (λ b. IsBase types t b.0) → IfNone up ((b : ℕ) → IsBase types t b → ⊥) → base_at (slice_get types t) ≡ up
base_from_call types t None some_ none_ = elim (base_at (slice_get types t)) as (λ (o : Option TypeId). base_at (slice_get types t) ≡ o → o ≡ None) [
  | None ↦ λ e. refl
  | Some b ↦ λ e. absurd (none_ b.0 (base_is types t b e))
] refl
base_from_call types t (Some b) some_ none_ = is_base types t b.0 some_

none_left : (types : List TypeRow) (n : ℕ) → chain_left types n None ≡ []
none_left types zero = refl
none_left types (suc n) = refl

none_told : (table : List (Option Spread)) (n : ℕ) → told_left table n None ≡ []
none_told table zero = refl
none_told table (suc n) = refl

module _ (types : List TypeRow) (order : List ℕ) (first : IsAboveFirst (IsAbove types) (length types) order) where
  abbrev high : ℕ → ℕ
  high t = height (length types) order t

  -- so many steps are enough
  abbrev IsEnough : ℕ → Option TypeId → Type 0
  IsEnough n None = Unit {0}
  IsEnough n (Some t) = high t.0 < n

  base_enough : (n t : ℕ) → high t < suc n → IsEnough n (base_at (slice_get types t))
  base_enough n t lt = elim (base_at (slice_get types t)) as (λ (o : Option TypeId). base_at (slice_get types t) ≡ o → IsEnough n o) [
    | None ↦ λ e. tt
    | Some b ↦ λ e. let low = lower_base types order t b.0 first (base_is types t b e) in omega (arith, low, lt)
  ] refl

  chain_more : (n m : ℕ) (up : Option TypeId) → IsEnough n up → IsEnough m up → chain_left types n up ≡ chain_left types m up
  chain_more zero m None a b = sym (none_left types m)
  chain_more zero m (Some t) a b = absurd (omega (arith, a))
  chain_more (suc n) zero None a b = refl
  chain_more (suc n) zero (Some t) a b = absurd (omega (arith, b))
  chain_more (suc n) (suc m) None a b = refl
  chain_more (suc n) (suc m) (Some t) a b =
      ap (λ (us : List ℕ). t.0 ∷ us) (chain_more n m (base_at (slice_get types t.0)) (base_enough n t.0 a) (base_enough m t.0 b))

  -- the first of a base chain, and the chain of its base
  pub chain_step : (t : TypeId) → chain_left types (suc (suc (length order))) (Some t) ≡ t.0 ∷ chain_left types (suc (suc (length order))) (base_at (slice_get types t.0))
  chain_step t =
      let low = height_short (length types) order t.0 in
      ap (λ (us : List ℕ). t.0 ∷ us)
      (chain_more (suc (length order)) (suc (suc (length order))) (base_at (slice_get types t.0))
      (base_enough (suc (length order)) t.0 low) (base_enough (suc (suc (length order))) t.0 (omega (arith, low))))

  chain_upto : (n t : ℕ) → high t < n → IsChain types t (chain_left types n (Some (record { 0 = t })))
  chain_upto zero t lt = absurd (omega (arith, lt))
  chain_upto (suc n) t lt = elim (base_at (slice_get types t)) as (λ (o : Option TypeId). base_at (slice_get types t) ≡ o → IsChain types t (t ∷ chain_left types n o)) [
    | None ↦ λ e. subst (λ (us : List ℕ). IsChain types t (t ∷ us)) (sym (none_left types n))
        (ended t (λ b base. let k : None ≡ Some (record { 0 = b }) = sym e ∙ is_base types t b base in cc))
    | Some b ↦ λ e.
        let base = base_is types t b e in
        let low = lower_base types order t b.0 first base in
        longer t b.0 (chain_left types n (Some b)) base (chain_upto n b.0 (omega (arith, low, lt)))
  ] refl

  pub chain_whole : (t : ℕ) → IsChain types t (chain_left types (suc (suc (length order))) (Some (record { 0 = t })))
  chain_whole t = chain_upto (suc (suc (length order))) t (height_short (length types) order t)

  module _ (table : List (Option Spread)) (links : LinksGoUp types table) where
    abbrev IsEnoughOn : ℕ → Option ℕ → Type 0
    IsEnoughOn n None = Unit {0}
    IsEnoughOn n (Some t) = high t < n

    onward_from : (t : ℕ) (at : Option (Option Spread)) (b : ℕ) → slice_get table t ≡ at → onward_at at ≡ Some b → high b < high t
    onward_from t None b e f = let k : None ≡ Some b = f in cc
    onward_from t (Some None) b e f = let k : None ≡ Some b = f in cc
    onward_from t (Some (Some s)) b e f = link_lower types order table t b s first links e f

    onward_enough : (n t : ℕ) → high t < suc n → IsEnoughOn n (onward_at (slice_get table t))
    onward_enough n t lt = elim (onward_at (slice_get table t)) as (λ (o : Option ℕ). onward_at (slice_get table t) ≡ o → IsEnoughOn n o) [
      | None ↦ λ e. tt
      | Some b ↦ λ e. let low = onward_from t (slice_get table t) b refl e in omega (arith, low, lt)
    ] refl

    told_more : (n m : ℕ) (on : Option ℕ) → IsEnoughOn n on → IsEnoughOn m on → told_left table n on ≡ told_left table m on
    told_more zero m None a b = sym (none_told table m)
    told_more zero m (Some t) a b = absurd (omega (arith, a))
    told_more (suc n) zero None a b = refl
    told_more (suc n) zero (Some t) a b = absurd (omega (arith, b))
    told_more (suc n) (suc m) None a b = refl
    told_more (suc n) (suc m) (Some t) a b =
        ap (λ (us : List ℕ). own_at (slice_get table t) ++ us)
        (told_more n m (onward_at (slice_get table t)) (onward_enough n t a) (onward_enough m t b))

    -- the interfaces that stand with a type, and those that they go on with
    pub told_step : (t : ℕ) → told_left table (suc (suc (length order))) (Some t) ≡ own_at (slice_get table t) ++ told_left table (suc (suc (length order))) (onward_at (slice_get table t))
    told_step t =
        let low = height_short (length types) order t in
        ap (λ (us : List ℕ). own_at (slice_get table t) ++ us)
        (told_more (suc (length order)) (suc (suc (length order))) (onward_at (slice_get table t))
        (onward_enough (suc (length order)) t low) (onward_enough (suc (suc (length order))) t (omega (arith, low))))

    told_upto : (n t : ℕ) (list : List ℕ) → IsTold table t list → high t < n → told_left table n (Some t) ≡ list
    told_upto zero t list told lt = absurd (omega (arith, lt))
    told_upto (suc n) t list (told_ended u s stands top) lt =
        ap (λ (at : Option (Option Spread)). own_at at ++ told_left table n (onward_at at)) stands
        ∙ ap (λ (o : Option ℕ). s.own ++ told_left table n o) top
        ∙ ap (λ (us : List ℕ). s.own ++ us) (none_told table n)
        ∙ append-nil s.own
    told_upto (suc n) t list (told_further u b s rest stands on told) lt =
        let low = link_lower types order table u b s first links stands on in
        ap (λ (at : Option (Option Spread)). own_at at ++ told_left table n (onward_at at)) stands
        ∙ ap (λ (o : Option ℕ). s.own ++ told_left table n o) on
        ∙ ap (λ (us : List ℕ). s.own ++ us) (told_upto n b rest told (omega (arith, low, lt)))

    pub told_whole : (t : ℕ) (list : List ℕ) → IsTold table t list → told_left table (suc (suc (length order))) (Some t) ≡ list
    told_whole t list told = told_upto (suc (suc (length order))) t list told (height_short (length types) order t)

    -- the own interfaces are through, and those of the type that they go on with are begun
    pub followed : (t : ℕ) (s : Spread) (before : List ℕ) → slice_get table t ≡ Some (Some s) → before ≡ told_left table (suc (suc (length order))) (Some t) → before ≡ s.own ++ told_left table (suc (suc (length order))) s.onward
    followed t s before stands e =
        e ∙ told_step t ∙ ap (λ (at : Option (Option Spread)). own_at at ++ told_left table (suc (suc (length order))) (onward_at at)) stands

    links_more : (n m : ℕ) (on : Option ℕ) → IsEnoughOn n on → IsEnoughOn m on → links_left table n on ≡ links_left table m on
    links_more zero m None a b = sym (no_links table m)
    links_more zero m (Some t) a b = absurd (omega (arith, a))
    links_more (suc n) zero None a b = refl
    links_more (suc n) zero (Some t) a b = absurd (omega (arith, b))
    links_more (suc n) (suc m) None a b = refl
    links_more (suc n) (suc m) (Some t) a b =
        ap suc (links_more n m (onward_at (slice_get table t)) (onward_enough n t a) (onward_enough m t b))

    links_step : (t : ℕ) → links_left table (suc (suc (length order))) (Some t) ≡ suc (links_left table (suc (suc (length order))) (onward_at (slice_get table t)))
    links_step t =
        let low = height_short (length types) order t in
        ap suc
        (links_more (suc (length order)) (suc (suc (length order))) (onward_at (slice_get table t))
        (onward_enough (suc (length order)) t low) (onward_enough (suc (suc (length order))) t (omega (arith, low))))

    pub followed_lower : (t : ℕ) (s : Spread) → slice_get table t ≡ Some (Some s) → links_left table (suc (suc (length order))) s.onward < links_left table (suc (suc (length order))) (Some t)
    followed_lower t s stands =
        let e = links_step t ∙ ap (λ (at : Option (Option Spread)). suc (links_left table (suc (suc (length order))) (onward_at at))) stands in
        omega (arith, e)

    no_own : (t : ℕ) (at : Option (Option Spread)) → ((s : Spread) → at ≡ Some (Some s) → ⊥) → own_at at ++ told_left table (suc (suc (length order))) (onward_at at) ≡ []
    no_own t None off = refl
    no_own t (Some None) off = refl
    no_own t (Some (Some s)) off = absurd (off s refl)

    pub not_followed : (t : ℕ) (before : List ℕ) → ((s : Spread) → slice_get table t ≡ Some (Some s) → ⊥) → before ≡ told_left table (suc (suc (length order))) (Some t) → before ≡ []
    not_followed t before off e = e ∙ told_step t ∙ no_own t (slice_get table t) off

    -- the same at what calls have told
    pub go_on : (before own after : List ℕ) (onward : Option ℕ) (t : ℕ) (s : Spread) (shown : List (Option Spread)) → before ≡ own ++ told_left table (suc (suc (length order))) onward → own ≡ [] → onward ≡ Some t → shown ≡ table → slice_get shown t ≡ Some (Some s) → after ≡ s.own → before ≡ after ++ told_left table (suc (suc (length order))) s.onward
    go_on before own after onward t s shown e none_ on same stands is =
        let at : slice_get table t ≡ Some (Some s) = ap (λ (xs : List (Option Spread)). slice_get xs t) (sym same) ∙ stands in
        let start : before ≡ told_left table (suc (suc (length order))) (Some t) =
        e ∙ ap (λ (xs : List ℕ). xs ++ told_left table (suc (suc (length order))) onward) none_ ∙ ap (λ (o : Option ℕ). told_left table (suc (suc (length order))) o) on in
        followed t s before at start ∙ ap (λ (xs : List ℕ). xs ++ told_left table (suc (suc (length order))) s.onward) (sym is)

    pub go_lower : (onward : Option ℕ) (t : ℕ) (s : Spread) (shown : List (Option Spread)) → onward ≡ Some t → shown ≡ table → slice_get shown t ≡ Some (Some s) → links_left table (suc (suc (length order))) s.onward < links_left table (suc (suc (length order))) onward
    go_lower onward t s shown on same stands =
        let at : slice_get table t ≡ Some (Some s) = ap (λ (xs : List (Option Spread)). slice_get xs t) (sym same) ∙ stands in
        subst (λ (o : Option ℕ). links_left table (suc (suc (length order))) s.onward < links_left table (suc (suc (length order))) o) (sym on) (followed_lower t s at)

    pub go_no_further : (before own : List ℕ) (onward : Option ℕ) (t : ℕ) (shown : List (Option Spread)) → before ≡ own ++ told_left table (suc (suc (length order))) onward → own ≡ [] → onward ≡ Some t → shown ≡ table → ((s : Spread) → slice_get shown t ≡ Some (Some s) → ⊥) → before ≡ []
    go_no_further before own onward t shown e none_ on same off =
        let start : before ≡ told_left table (suc (suc (length order))) (Some t) =
        e ∙ ap (λ (xs : List ℕ). xs ++ told_left table (suc (suc (length order))) onward) none_ ∙ ap (λ (o : Option ℕ). told_left table (suc (suc (length order))) o) on in
        not_followed t before (λ s at. off s (ap (λ (xs : List (Option Spread)). slice_get xs t) same ∙ at)) start
