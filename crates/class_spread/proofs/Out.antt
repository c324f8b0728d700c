-- Interfaces that are spread out, and the interfaces that a type names in turn.
use Rattle.std.proofs.Common.{◌≡◌, ◌⊎◌, ℕ, zero, suc, ◌+◌, ◌<◌, Bool, true, false, cond, not, ◌||◌, Option, Some, None, List, [], ◌∷◌, ◌++◌, length, map, take, nat_eq, get_or, inl, inr, sym, refl, ap, subst, ◌∙◌, arith, append_assoc, append-nil}
use Rattle.std.proofs.lemmas.Bool.{eqb-true, eq-eqb}
use Rattle.std.proofs.lemmas.List.Folds.{list_any-append}
use Rattle.std.proofs.lemmas.Option.{slice_get_within}
use Rattle.std.specs.List.{slice_get, filter}
use Rattle.std.specs.Bool.{◌==◌}
use Rattle.std.proofs.lemmas.List.{take_more, map-append}
use Rattle.std.specs.Prelude.{option_map}
use Rattle.indexmap.specs.IndexSet.{insert_key}
use Rattle.dc_base.specs.declared.names.TypeId.{TypeId}
use Rattle.class_chains.specs.Ends.{IsAboveFirst}
use Rattle.class_parts.proofs.Climb.{height, lower}
use Rattle.class_rows.specs.declared.row.TypeRow.{TypeRow}
use Rattle.class_rows.specs.Types.{IsAbove, IsNamed, NamesInterface, directly, in_turn}
use Rattle.class_rows.specs.Lookups.{AreNamed, AreSpread, none, more, firsts}
use Rattle.class_spread.specs.Spreads.{IsSpreadOut}
use Rattle.class_spread.specs.Filled.{added}
use Rattle.class_spread.proofs.Firsts.{has, added-append, added_firsts, added_all, has_firsts}

abbrev numbers : List TypeId → List ℕ
numbers is = map (λ (i : TypeId). i.0) is

pub or_left : (a b : Bool) → a ≡ true → (a || b) ≡ true
or_left a b h = rw h refl

or_right : (a b : Bool) → b ≡ true → (a || b) ≡ true
or_right true b h = refl
or_right false b h = h

or_cases : (a b : Bool) → (a || b) ≡ true → (a ≡ true) ⊎ (b ≡ true)
or_cases true b h = inl refl
or_cases false b h = inr h

-- where a number stands among those of a list of types
has_named : (is : List TypeId) (j : ℕ) → has j (numbers is) ≡ true → (k : ℕ) × (slice_get is k ≡ Some (record { 0 = j }))
has_named [] j h = let e : false ≡ true = h in cc
has_named (i ∷ is) j h = elim (or_cases (nat_eq j i.0) (has j (numbers is)) h) [
  | inl e ↦ (0, ap (λ (n : ℕ). Some (record { 0 = n })) (sym (eqb-true j i.0 e)))
  | inr rest ↦ let at = has_named is j rest in (suc at.0, at.1)
]

some_number : (a b : ℕ) → Some a ≡ Some b → a ≡ b
some_number a b h = cc

named_has : (is : List TypeId) (j k : ℕ) → slice_get is k ≡ Some (record { 0 = j }) → has j (numbers is) ≡ true
named_has [] j k h = let e : None ≡ Some (record { 0 = j }) = h in cc
named_has (i ∷ is) j zero h =
    let e : Some i.0 ≡ Some j = ap (λ (o : Option TypeId). option_map (λ (t : TypeId). t.0) o) h in
    let same : j ≡ i.0 = sym (some_number i.0 j e) in or_left (nat_eq j i.0) (has j (numbers is)) (eq-eqb j i.0 same)
named_has (i ∷ is) j (suc k) h = or_right (nat_eq j i.0) (has j (numbers is)) (named_has is j k h)

one_row : {X : Type 0} (xs : List X) (t : ℕ) (a b : X) → slice_get xs t ≡ Some a → slice_get xs t ≡ Some b → a ≡ b
one_row xs t a b p q = let e : Some a ≡ Some b = sym p ∙ q in cc

pub is_named : (types : List TypeRow) (t : ℕ) (named : List ℕ) → AreNamed types t named → (j : ℕ) → has j named ≡ true → IsNamed types t j
is_named types t named are j h =
    record { row = are.row; stands = are.stands; is = has_named are.row.bases j (subst (λ (xs : List ℕ). has j xs ≡ true) (sym are.is) h) }

pub named_is : (types : List TypeRow) (t : ℕ) (named : List ℕ) → AreNamed types t named → (j : ℕ) → IsNamed types t j → has j named ≡ true
named_is types t named are j is =
    let e = one_row types t is.row are.row is.stands are.stands in
    let there : has j (numbers is.row.bases) ≡ true = named_has is.row.bases j is.is.0 is.is.1 in
    subst (λ (xs : List ℕ). has j xs ≡ true) (ap (λ (r : TypeRow). numbers r.bases) e ∙ are.is) there

-- two spreads in turn
pub spread_append : (types : List TypeRow) (is xs js ys : List ℕ) → AreSpread types is xs → AreSpread types js ys → AreSpread types (is ++ js) (xs ++ ys)
spread_append types is xs js ys none b = b
spread_append types is xs js ys (more i rest named spread out_ are first then_) b =
    subst (λ (zs : List ℕ). AreSpread types (i ∷ (rest ++ js)) (i ∷ zs)) (sym (append_assoc spread out_ ys))
    (more i (rest ++ js) named spread (out_ ++ ys) are first (spread_append types rest out_ js ys then_ b))

-- what is reached by naming
abbrev pub IsAt : List TypeRow → ℕ → ℕ → Type 0
IsAt types i x = (i ≡ x) ⊎ NamesInterface types i x

named_on : (types : List TypeRow) (i j x : ℕ) → IsNamed types i j → IsAt types j x → NamesInterface types i x
named_on types i j x named (inl e) = subst (λ (n : ℕ). NamesInterface types i n) e (directly i j named)
named_on types i j x named (inr on) = in_turn i j x named on

pub named_first : (types : List TypeRow) (i x : ℕ) → NamesInterface types i x → (j : ℕ) × IsNamed types i j × IsAt types j x
named_first types i x (directly t j named) = (j, named, inl refl)
named_first types i x (in_turn t j y named on) = (j, named, inr on)

spread_from : (types : List TypeRow) (is xs : List ℕ) → AreSpread types is xs → (x : ℕ) → has x xs ≡ true → (i : ℕ) × (has i is ≡ true) × IsAt types i x
spread_from types is xs none x h = let e : false ≡ true = h in cc
spread_from types is xs (more i rest named spread out_ are first then_) x h = elim (or_cases (nat_eq x i) (has x (spread ++ out_)) h) [
  | inl e ↦ (i, or_left (nat_eq i i) (has i rest) (eq-eqb i i refl), inl (sym (eqb-true x i e)))
  | inr k ↦ elim (or_cases (has x spread) (has x out_) (sym (list_any-append (nat_eq x) spread out_) ∙ k)) [
    | inl s ↦
        let at = spread_from types named spread first x s in
        (i, or_left (nat_eq i i) (has i rest) (eq-eqb i i refl), inr (named_on types i at.0 x (is_named types i named are at.0 at.1) at.2))
    | inr s ↦
        let at = spread_from types rest out_ then_ x s in
        (at.0, or_right (nat_eq at.0 i) (has at.0 rest) at.1, at.2)
  ]
]

spread_has : (types : List TypeRow) (is xs : List ℕ) → AreSpread types is xs → (i x : ℕ) → has i is ≡ true → IsAt types i x → has x xs ≡ true
spread_has types is xs none i x h at = let e : false ≡ true = h in cc
spread_has types is xs (more j rest named spread out_ are first then_) i x h at = elim (or_cases (nat_eq i j) (has i rest) h) [
  | inl e ↦
      let same = eqb-true i j e in
      elim at [
        | inl here ↦ or_left (nat_eq x j) (has x (spread ++ out_)) (eq-eqb x j (sym here ∙ same))
        | inr on ↦
            let step = named_first types j x (subst (λ (n : ℕ). NamesInterface types n x) same on) in
            let inside = spread_has types named spread first step.0 x (named_is types j named are step.0 step.1) step.2 in
            or_right (nat_eq x j) (has x (spread ++ out_)) (list_any-append (nat_eq x) spread out_ ∙ or_left (has x spread) (has x out_) inside)
      ]
  | inr k ↦
      or_right (nat_eq x j) (has x (spread ++ out_)) (list_any-append (nat_eq x) spread out_ ∙ or_right (has x spread) (has x out_) (spread_has types rest out_ then_ i x k at))
]

-- what is spread out of the interfaces that a type names are those that it names in turn
pub out_to : (types : List TypeRow) (t : ℕ) (named list : List ℕ) → AreNamed types t named → IsSpreadOut types named list → (x : ℕ) → has x list ≡ true → NamesInterface types t x
out_to types t named list are out x h =
    let there : has x out.0 ≡ true = sym (has_firsts x out.0) ∙ subst (λ (xs : List ℕ). has x xs ≡ true) out.2 h in
    let at = spread_from types named out.0 out.1 x there in
    named_on types t at.0 x (is_named types t named are at.0 at.1) at.2

pub out_back : (types : List TypeRow) (t : ℕ) (named list : List ℕ) → AreNamed types t named → IsSpreadOut types named list → (x : ℕ) → NamesInterface types t x → has x list ≡ true
out_back types t named list are out x on =
    let step = named_first types t x on in
    let there = spread_has types named out.0 out.1 step.0 x (named_is types t named are step.0 step.1) step.2 in
    subst (λ (xs : List ℕ). has x xs ≡ true) (sym out.2) (has_firsts x out.0 ∙ there)

-- nothing names itself in turn
pub names_lower : (types : List TypeRow) (order : List ℕ) → IsAboveFirst (IsAbove types) (length types) order → (t x : ℕ) → NamesInterface types t x → height (length types) order x < height (length types) order t
names_lower types order first t x (directly u i named) = lower (IsAbove types) (length types) order u i first (slice_get_within types u named.row named.stands) (inr named)
names_lower types order first t x (in_turn u j i named on) =
    let up = lower (IsAbove types) (length types) order u j first (slice_get_within types u named.row named.stands) (inr named) in
    let rest = names_lower types order first j i on in
    omega (arith, up, rest)

without : (x : ℕ) (l : List ℕ) → has x l ≡ false → filter (λ y. not (y == x)) l ≡ l
without x [] h = refl
without x (y ∷ ys) h =
    elim (y == x) as (λ b. (y == x) ≡ b → cond (not b) (y ∷ filter (λ z. not (z == x)) ys) (filter (λ z. not (z == x)) ys) ≡ y ∷ ys) [
      | true ↦ λ e. let yes_ : (nat_eq x y || has x ys) ≡ true = or_left (nat_eq x y) (has x ys) (eq-eqb x y (sym (eqb-true y x e))) in
          let k : true ≡ false = sym yes_ ∙ h in cc
      | false ↦ λ e. ap (λ zs. y ∷ zs) (without x ys (second_false (nat_eq x y) (has x ys) h))
    ] refl
  where
    second_false : (a b : Bool) → (a || b) ≡ false → b ≡ false
    second_false true b h = let k : true ≡ false = h in cc
    second_false false b h = h

not_true : (b : Bool) → (b ≡ true → ⊥) → b ≡ false
not_true true h = absurd (h refl)
not_true false h = refl

-- one interface, followed by those that it names
pub out_single : (types : List TypeRow) (order : List ℕ) → IsAboveFirst (IsAbove types) (length types) order → (i : ℕ) (named list : List ℕ) → AreNamed types i named → IsSpreadOut types named list → IsSpreadOut types (i ∷ []) (i ∷ list)
out_single types order first i named list are out =
    let nil : out.0 ++ [] ≡ out.0 = append-nil out.0 in
    let apart : has i (firsts out.0) ≡ false = not_true (has i (firsts out.0)) (λ h. let on = out_to types i named list are out i (subst (λ (xs : List ℕ). has i xs ≡ true) (sym out.2) h) in let lt = names_lower types order first i i on in omega (arith, lt)) in (
      i ∷ (out.0 ++ []),
      more i [] named out.0 [] are out.1 none,
      ap (λ (xs : List ℕ). i ∷ xs) (out.2 ∙ sym (without i (firsts out.0) apart) ∙ ap (λ (xs : List ℕ). filter (λ y. not (y == i)) (firsts xs)) (sym nil)),
    )

-- one more interface and those that it names are added
pub out_more : (types : List TypeRow) (is spread keys : List ℕ) (i : ℕ) (named list : List ℕ) → AreSpread types is spread → keys ≡ firsts spread → AreNamed types i named → IsSpreadOut types named list → IsSpreadOut types (is ++ (i ∷ [])) (added (insert_key nat_eq keys i) list)
out_more types is spread keys i named list sp e are out =
    let last : AreSpread types (i ∷ []) (i ∷ (out.0 ++ [])) = more i [] named out.0 [] are out.1 none in
    let whole = spread_append types is spread (i ∷ []) (i ∷ (out.0 ++ [])) sp last in
    let keys_are : keys ≡ added [] spread = e ∙ sym (added_all spread) in
    let a : added (insert_key nat_eq keys i) list ≡ added (insert_key nat_eq keys i) out.0 = ap (λ (xs : List ℕ). added (insert_key nat_eq keys i) xs) out.2 ∙ added_firsts (insert_key nat_eq keys i) out.0 in
    let b : added keys (i ∷ out.0) ≡ added (added [] spread) (i ∷ out.0) = ap (λ (ks : List ℕ). added ks (i ∷ out.0)) keys_are in
    let c_ : added (added [] spread) (i ∷ out.0) ≡ added [] (spread ++ (i ∷ out.0)) = sym (added-append [] spread (i ∷ out.0)) in
    let d : added [] (spread ++ (i ∷ out.0)) ≡ firsts (spread ++ (i ∷ out.0)) = added_all (spread ++ (i ∷ out.0)) in
    let f : firsts (spread ++ (i ∷ out.0)) ≡ firsts (spread ++ (i ∷ (out.0 ++ []))) = ap (λ (xs : List ℕ). firsts (spread ++ (i ∷ xs))) (sym (append-nil out.0)) in
    (spread ++ (i ∷ (out.0 ++ [])), whole, a ∙ b ∙ c_ ∙ d ∙ f)

-- the same at the next of a list of types
pub out_next : (types : List TypeRow) (named : List TypeId) (k : ℕ) (d : TypeId) (keys between after : List ℕ) (inner list : List ℕ) → k < length named → IsSpreadOut types (numbers (take k named)) keys → AreNamed types (get_or named k d).0 inner → IsSpreadOut types inner list → between ≡ insert_key nat_eq keys (get_or named k d).0 → after ≡ added between list → IsSpreadOut types (numbers (take (k + 1) named)) after
out_next types named k d keys between after inner list lt so_far are out e f =
    let i = get_or named k d in
    let next_ : take (k + 1) named ≡ take k named ++ (i ∷ []) = take_more named k d lt in
    let nums : numbers (take (k + 1) named) ≡ numbers (take k named) ++ (i.0 ∷ []) = ap numbers next_ ∙ map-append (λ (t : TypeId). t.0) (take k named) (i ∷ []) in
    let whole = out_more types (numbers (take k named)) so_far.0 keys i.0 inner list so_far.1 so_far.2 are out in
    let keys_ : after ≡ added (insert_key nat_eq keys i.0) list = f ∙ ap (λ (ks : List ℕ). added ks list) e in
    subst (λ (xs : List ℕ). IsSpreadOut types xs after) (sym nums) (subst (λ (xs : List ℕ). IsSpreadOut types (numbers (take k named) ++ (i.0 ∷ [])) xs) (sym keys_) whole)
