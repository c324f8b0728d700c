-- A base chain, interfaces that are spread out and System.Object are what is searched.
use Rattle.std.proofs.Common.{◌≡◌, ◌⊎◌, ℕ, ◌≤◌, Bool, true, false, cond, not, ◌||◌, Option, Some, None, List, [], ◌∷◌, ◌++◌, length, nat_eq, inl, inr, sym, refl, ap, subst, ◌∙◌, arith, append-nil, append_assoc}
use Rattle.std.proofs.lemmas.Bool.{eqb-true, eq-eqb, or_left, or_right}
use Rattle.std.proofs.lemmas.List.Folds.{list_any-append}
use Rattle.std.proofs.lemmas.Option.{slice_get_within}
use Rattle.std.specs.List.{slice_get, filter}
use Rattle.std.specs.Bool.{◌==◌}
use Rattle.std.specs.Prelude.{MatchOption}
use Rattle.indexmap.specs.IndexSet.{insert_key}
use Rattle.dc_base.specs.declared.names.TypeId.{TypeId}
use Rattle.class_chains.specs.Ends.{here, further, IsAboveFirst}
use Rattle.class_parts.proofs.Climb.{height, lower_base, one_base, reached}
use Rattle.class_rows.specs.declared.row.TypeRow.{TypeRow}
use Rattle.class_rows.specs.declared.row.Kind.TheVariants.{Interface}
use Rattle.class_rows.specs.Types.{HasType, IsBase, IsNamed, IsAbove, InBaseChain, NamesInterface, directly, in_turn}
use Rattle.class_rows.specs.Lookups.{IsChain, ended, longer, firsts, AreNamed, AreSearched, of_interface, of_other}
use Rattle.class_spread.specs.Spreads.{IsSpreadOut}
use Rattle.class_spread.proofs.Firsts.{has, added-append, added_all, has_firsts}
use Rattle.class_spread.proofs.Out.{out_to, out_back, names_lower}
use Rattle.class_assign.specs.declared.supers.Supers.{Supers}
use Rattle.class_assign.specs.Supers.{AreSupers}
use Rattle.class_search.specs.Fit.{BasesAreClasses, NamedAreInterfaces, IsSearchedBefore}
use Rattle.class_search.specs.Left.{chain_left, told_left, last_left, steps}
use Rattle.class_search.proofs.Left.{chain_whole, told_whole}

or_cases : (a b : Bool) → (a || b) ≡ true → (a ≡ true) ⊎ (b ≡ true)
or_cases true b h = inl refl
or_cases false b h = inr h

without : (x : ℕ) (l : List ℕ) → has x l ≡ false → filter (λ y. not (y == x)) l ≡ l
without x [] h = refl
without x (y ∷ ys) h =
    elim (y == x) as (λ b. (y == x) ≡ b → cond (not b) (y ∷ filter (λ z. not (z == x)) ys) (filter (λ z. not (z == x)) ys) ≡ y ∷ ys) [
      | true ↦ λ e. let yes_ : (nat_eq x y || has x ys) ≡ true = or_left (nat_eq x y) (has x ys) (eq-eqb x y (sym (eqb-true y x e))) in
          let k : true ≡ false = sym yes_ ∙ h in cc
      | false ↦ λ e. ap (λ zs. y ∷ zs) (without x ys (second_false (nat_eq x y) (has x ys) h))
    ] refl
  where
    second_false : (a b : Bool) → (a || b) ≡ false → b ≡ false
    second_false true b h = let k : true ≡ false = h in cc
    second_false false b h = h

not_true : (b : Bool) → (b ≡ true → ⊥) → b ≡ false
not_true true h = absurd (h refl)
not_true false h = refl

-- the types of a chain are those in the base chain
pub chain_has : (types : List TypeRow) (t : ℕ) (chain : List ℕ) → IsChain types t chain → (x : ℕ) → has x chain ≡ true → InBaseChain types t x
chain_has types t chain (ended u top) x h = elim (or_cases (nat_eq x u) false h) [
  | inl e ↦ subst (λ (n : ℕ). InBaseChain types u n) (sym (eqb-true x u e)) (here u)
  | inr k ↦ let n : false ≡ true = k in cc
]
chain_has types t chain (longer u b rest base on) x h = elim (or_cases (nat_eq x u) (has x rest) h) [
  | inl e ↦ subst (λ (n : ℕ). InBaseChain types u n) (sym (eqb-true x u e)) (here u)
  | inr k ↦ further u b x base (chain_has types b rest on x k)
]

pub has_chain : (types : List TypeRow) (t : ℕ) (chain : List ℕ) → IsChain types t chain → (x : ℕ) → InBaseChain types t x → has x chain ≡ true
has_chain types t chain (ended u top) x on = elim (reached (IsBase types) u x on) [
  | inl e ↦ or_left (nat_eq x u) false (eq-eqb x u (sym e))
  | inr s ↦ absurd (top s.0 s.1)
]
has_chain types t chain (longer u b rest base above_) x on = elim (reached (IsBase types) u x on) [
  | inl e ↦ or_left (nat_eq x u) (has x rest) (eq-eqb x u (sym e))
  | inr s ↦ or_right (nat_eq x u) (has x rest) (has_chain types b rest above_ x (subst (λ (n : ℕ). InBaseChain types n x) (one_base types u s.0 b s.1 base) s.2))
]

-- the last step of a way up
base_end : (types : List TypeRow) (t b x : ℕ) → IsBase types t b → InBaseChain types b x → (c : ℕ) × IsBase types c x
base_end types t b x base (here u) = (t, base)
base_end types t b x base (further u c y next rest) = base_end types u c y next rest

named_end : (types : List TypeRow) (t x : ℕ) → NamesInterface types t x → (c : ℕ) × IsNamed types c x
named_end types t x (directly u i named) = (u, named)
named_end types t x (in_turn u j i named rest) = named_end types j i rest

one_row : {X : Type 0} (xs : List X) (t : ℕ) (a b : X) → slice_get xs t ≡ Some a → slice_get xs t ≡ Some b → a ≡ b
one_row xs t a b p q = let e : Some a ≡ Some b = sym p ∙ q in cc

module _ (types : List TypeRow) (order : List ℕ) (first : IsAboveFirst (IsAbove types) (length types) order) where
  chain_lower : (b u : ℕ) → InBaseChain types b u → height (length types) order u ≤ height (length types) order b
  chain_lower b u (here t) = omega arith
  chain_lower b u (further t c a base rest) =
      let up = lower_base types order t c first base in
      let more_ = chain_lower c a rest in
      omega (arith, up, more_)

  -- no type stands both in the base chain of a type and among its interfaces
  pub apart : BasesAreClasses types → NamedAreInterfaces types → (t x : ℕ) → InBaseChain types t x → NamesInterface types t x → ⊥
  apart bases named t x chain names = elim (reached (IsBase types) t x chain) [
    | inl e ↦
        let low = names_lower types order first t x names in
        let same : height (length types) order t ≡ height (length types) order x = ap (λ (n : ℕ). height (length types) order n) e in
        omega (arith, low, same)
    | inr s ↦
        let at = base_end types t s.0 x s.1 s.2 in
        let a = bases at.0 x at.1 in
        let on = named_end types t x names in
        let b = named on.0 x on.1 in
        let e = one_row types x b.row a.row b.stands a.stands in
        a.is (ap (λ (r : TypeRow). r.kind) (sym e) ∙ b.is)
  ]

  -- the types of a chain, each once
  chain_firsts : (t : ℕ) (chain : List ℕ) → IsChain types t chain → (ys : List ℕ) → ((x : ℕ) → InBaseChain types t x → has x ys ≡ true → ⊥) → firsts (chain ++ ys) ≡ chain ++ firsts ys
  chain_firsts t chain (ended u top) ys off =
      ap (λ (zs : List ℕ). u ∷ zs) (without u (firsts ys) (has_firsts u ys ∙ not_true (has u ys) (off u (here u))))
  chain_firsts t chain (longer u b rest base on) ys off =
      let inner = chain_firsts b rest on ys (λ x up h. off x (further u b x base up) h) in
      let low = lower_base types order u b first base in
      let no_ : has u (rest ++ ys) ≡ false = not_true (has u (rest ++ ys)) (λ h. elim (or_cases (has u rest) (has u ys) (sym (list_any-append (nat_eq u) rest ys) ∙ h)) [
        | inl k ↦ let le = chain_lower b u (chain_has types b rest on u k) in omega (arith, le, low)
        | inr k ↦ off u (here u) k
      ]) in
      ap (λ (zs : List ℕ). u ∷ zs) (without u (firsts (rest ++ ys)) (has_firsts u (rest ++ ys) ∙ no_) ∙ inner)

firsts_last : (xs : List ℕ) (o : ℕ) → firsts (xs ++ (o ∷ [])) ≡ insert_key nat_eq (firsts xs) o
firsts_last xs o =
    sym (added_all (xs ++ (o ∷ []))) ∙ added-append [] xs (o ∷ []) ∙ ap (λ (ks : List ℕ). insert_key nat_eq ks o) (added_all xs)

-- a type is left out where it occurs before
last_out : (xs : List ℕ) (o : ℕ) → has o xs ≡ true → insert_key nat_eq xs o ≡ xs
last_out xs o h = rw h refl

last_in : (xs : List ℕ) (o : ℕ) → has o xs ≡ false → insert_key nat_eq xs o ≡ xs ++ (o ∷ [])
last_in xs o h = rw h refl

-- whether System.Object is still to be searched at the end
abbrev pub IsLast : List TypeRow → ℕ → ℕ → Option TypeId → Type 0
IsLast types t o last = MatchOption last (IsSearchedBefore types t o) (λ l. (l.0 ≡ o) × (IsSearchedBefore types t o → ⊥))

module _ (types : List TypeRow) (supers : Supers) (are : AreSupers types supers) (bases : BasesAreClasses types) (interfaces : NamedAreInterfaces types) where
  abbrev chain : ℕ → List ℕ
  chain t = chain_left types (steps supers) (Some (record { 0 = t }))

  chain_is : (t : ℕ) → IsChain types t (chain t)
  chain_is t = chain_whole types supers.orders.bases are.orders.bases t

  whole : (t : ℕ) (named list : List ℕ) → AreNamed types t named → IsSpreadOut types named list → (last : Option TypeId) → IsLast types t supers.object.0 last → (spread : List ℕ) → list ≡ firsts spread → firsts (chain t ++ (spread ++ (supers.object.0 ∷ []))) ≡ chain t ++ (list ++ last_left last)
  whole t named list are_named out last is_last spread e =
      let o = supers.object.0 in
      let off : (x : ℕ) → InBaseChain types t x → has x spread ≡ true → ⊥ =
      λ x up h. apart types supers.orders.bases are.orders.bases bases interfaces t x up
      (out_to types t named list are_named out x (subst (λ (xs : List ℕ). has x xs ≡ true) (sym e) (has_firsts x spread ∙ h))) in
      let inner : firsts (chain t ++ spread) ≡ chain t ++ list =
      chain_firsts types supers.orders.bases are.orders.bases t (chain t) (chain_is t) spread off ∙ ap (λ (xs : List ℕ). chain t ++ xs) (sym e) in
      let ends_ : firsts (chain t ++ (spread ++ (o ∷ []))) ≡ insert_key nat_eq (chain t ++ list) o =
      ap firsts (sym (append_assoc (chain t) spread (o ∷ []))) ∙ firsts_last (chain t ++ spread) o ∙ ap (λ (ks : List ℕ). insert_key nat_eq ks o) inner in
      ends_ ∙ by_last last is_last
    where
      by_last : (last : Option TypeId) → IsLast types t supers.object.0 last → insert_key nat_eq (chain t ++ list) supers.object.0 ≡ chain t ++ (list ++ last_left last)
      by_last None before_ =
          let there : has supers.object.0 (chain t ++ list) ≡ true = list_any-append (nat_eq supers.object.0) (chain t) list ∙ elim before_ [
            | inl up ↦ or_left (has supers.object.0 (chain t)) (has supers.object.0 list) (has_chain types t (chain t) (chain_is t) supers.object.0 up)
            | inr names ↦ or_right (has supers.object.0 (chain t)) (has supers.object.0 list) (out_back types t named list are_named out supers.object.0 names)
          ] in
          last_out (chain t ++ list) supers.object.0 there ∙ ap (λ (xs : List ℕ). chain t ++ xs) (sym (append-nil list))
      by_last (Some l) h_ =
          let off : has supers.object.0 (chain t ++ list) ≡ false = not_true (has supers.object.0 (chain t ++ list)) (λ h. elim (or_cases (has supers.object.0 (chain t)) (has supers.object.0 list) (sym (list_any-append (nat_eq supers.object.0) (chain t) list) ∙ h)) [
            | inl k ↦ h_.1 (inl (chain_has types t (chain t) (chain_is t) supers.object.0 k))
            | inr k ↦ h_.1 (inr (out_to types t named list are_named out supers.object.0 k))
          ]) in
          last_in (chain t ++ list) supers.object.0 off ∙ append_assoc (chain t) list (supers.object.0 ∷ []) ∙ ap (λ (n : ℕ). chain t ++ (list ++ (n ∷ []))) (sym h_.0)

  pub interface_searched : (t : ℕ) → HasType types t (λ row. row.kind ≡ Interface) → (last : Option TypeId) → IsLast types t supers.object.0 last → AreSearched types t (chain t ++ (told_left supers.spreads (steps supers) (Some t) ++ last_left last))
  interface_searched t kind last is_last =
      let r = are.spreads.right t (slice_get_within types t kind.row kind.stands) in
      let told : told_left supers.spreads (steps supers) (Some t) ≡ r.list = told_whole types supers.orders.bases are.orders.bases supers.spreads are.spreads.links t r.list r.told in
      let e = whole t r.named r.list r.are_named r.out last is_last r.out.0 r.out.2 in
      subst (λ (us : List ℕ). AreSearched types t us) (e ∙ ap (λ (xs : List ℕ). chain t ++ (xs ++ last_left last)) (sym told))
      (of_interface (chain t) r.named r.out.0 supers.object.0 kind (chain_is t) r.are_named r.out.1 are.object.is)

pub other_searched : (types : List TypeRow) (supers : Supers) → AreSupers types supers → (t : ℕ) → (HasType types t (λ row. row.kind ≡ Interface) → ⊥) → AreSearched types t (chain_left types (steps supers) (Some (record { 0 = t })) ++ [])
other_searched types supers are t off =
    let chain : List ℕ = chain_left types (steps supers) (Some (record { 0 = t })) in
    subst (λ (us : List ℕ). AreSearched types t us) (sym (append-nil chain)) (of_other chain off (chain_whole types supers.orders.bases are.orders.bases t))
