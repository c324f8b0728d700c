-- What the tests on kinds tell.
use Rattle.std.proofs.Common.{◌≡◌, ◌⊎◌, inl, inr, ℕ, Bool, true, false, not, ◌&&◌, ◌||◌, ◌==◌, List, [], ◌∷◌, ◌++◌, refl, sym, ◌∙◌, ap, subst}
use Rattle.std.proofs.lemmas.Bool.{eqb-true}
use Rattle.cs_grammar.specs.Kinds.{has, begins, disjoint, subset}
use Rattle.cs_grammar.specs.Exact.{Alike}

pub or_true : (a b : Bool) → (a || b) ≡ true → (a ≡ true) ⊎ (b ≡ true)
or_true true b e = inl refl
or_true false b e = inr e

pub or_first : (a b : Bool) → a ≡ true → (a || b) ≡ true
or_first true b e = refl
or_first false b e = cc

pub or_second : (a b : Bool) → b ≡ true → (a || b) ≡ true
or_second true b e = refl
or_second false b e = e

pub or_false_first : (a b : Bool) → (a || b) ≡ false → a ≡ false
or_false_first true b e = e
or_false_first false b e = refl

pub or_false_second : (a b : Bool) → (a || b) ≡ false → b ≡ false
or_false_second true b e = cc
or_false_second false b e = e

pub and_first : (a b : Bool) → (a && b) ≡ true → a ≡ true
and_first true b e = refl
and_first false b e = e

pub and_second : (a b : Bool) → (a && b) ≡ true → b ≡ true
and_second true b e = e
and_second false b e = cc

pub and_both : (a b : Bool) → a ≡ true → b ≡ true → (a && b) ≡ true
and_both true b p q = q
and_both false b p q = p

pub not_true : (a : Bool) → not a ≡ true → a ≡ false
not_true true e = cc
not_true false e = refl

pub is_not : (a : Bool) → a ≡ true → a ≡ false → ⊥
is_not a p q = cc

pub has-append : (xs ys : List ℕ) (k : ℕ) → has (xs ++ ys) k ≡ (has xs k || has ys k)
has-append [] ys k = refl
has-append (x ∷ xs) ys k = ap (λ b. x == k || b) (has-append xs ys k) ∙ sym (or_assoc (x == k) (has xs k) (has ys k))
  where
    or_assoc : (a b c : Bool) → ((a || b) || c) ≡ (a || (b || c))
    or_assoc true b c = refl
    or_assoc false b c = refl

pub has-left : (xs ys : List ℕ) (k : ℕ) → has xs k ≡ true → has (xs ++ ys) k ≡ true
has-left xs ys k e = has-append xs ys k ∙ or_first (has xs k) (has ys k) e

pub has-right : (xs ys : List ℕ) (k : ℕ) → has ys k ≡ true → has (xs ++ ys) k ≡ true
has-right xs ys k e = has-append xs ys k ∙ or_second (has xs k) (has ys k) e

pub lacks-left : (xs ys : List ℕ) (k : ℕ) → has (xs ++ ys) k ≡ false → has xs k ≡ false
lacks-left xs ys k e = or_false_first (has xs k) (has ys k) (sym (has-append xs ys k) ∙ e)

pub lacks-right : (xs ys : List ℕ) (k : ℕ) → has (xs ++ ys) k ≡ false → has ys k ≡ false
lacks-right xs ys k e = or_false_second (has xs k) (has ys k) (sym (has-append xs ys k) ∙ e)

pub disjoint-lacks : (xs ys : List ℕ) (k : ℕ) → disjoint xs ys ≡ true → has xs k ≡ true → has ys k ≡ false
disjoint-lacks [] ys k d h = cc
disjoint-lacks (x ∷ xs) ys k d h =
    elim (or_true (x == k) (has xs k) h) [
      | inl e ↦ not_true (has ys k) (subst (λ z. not (has ys z) ≡ true) (eqb-true x k e) (and_first (not (has ys x)) (disjoint xs ys) d))
      | inr e ↦ disjoint-lacks xs ys k (and_second (not (has ys x)) (disjoint xs ys) d) e
    ]

pub disjoint-lacks_back : (xs ys : List ℕ) (k : ℕ) → disjoint xs ys ≡ true → has ys k ≡ true → has xs k ≡ false
disjoint-lacks_back xs ys k d h = by_case (has xs k) refl
  where
    by_case : (b : Bool) → has xs k ≡ b → b ≡ false
    by_case true e = absurd (is_not (has ys k) h (disjoint-lacks xs ys k d e))
    by_case false e = refl

pub subset-has : (xs ys : List ℕ) (k : ℕ) → subset xs ys ≡ true → has xs k ≡ true → has ys k ≡ true
subset-has [] ys k s h = cc
subset-has (x ∷ xs) ys k s h =
    elim (or_true (x == k) (has xs k) h) [
      | inl e ↦ subst (λ z. has ys z ≡ true) (eqb-true x k e) (and_first (has ys x) (subset xs ys) s)
      | inr e ↦ subset-has xs ys k (and_second (has ys x) (subset xs ys) s) e
    ]

pub subset-lacks : (xs ys : List ℕ) (k : ℕ) → subset xs ys ≡ true → has ys k ≡ false → has xs k ≡ false
subset-lacks xs ys k s h = by_case (has xs k) refl
  where
    by_case : (b : Bool) → has xs k ≡ b → b ≡ false
    by_case true e = absurd (is_not (has ys k) (subset-has xs ys k s e) h)
    by_case false e = refl

-- the same of the next token of a list

pub begins-left : {T : Type 0} (kind : T → ℕ) (xs ys : List ℕ) (ts : List T) → begins kind (xs ++ ys) ts ≡ false → begins kind xs ts ≡ false
begins-left kind xs ys [] e = refl
begins-left kind xs ys (t ∷ ts) e = lacks-left xs ys (kind t) e

pub begins-right : {T : Type 0} (kind : T → ℕ) (xs ys : List ℕ) (ts : List T) → begins kind (xs ++ ys) ts ≡ false → begins kind ys ts ≡ false
begins-right kind xs ys [] e = refl
begins-right kind xs ys (t ∷ ts) e = lacks-right xs ys (kind t) e

pub begins-subset : {T : Type 0} (kind : T → ℕ) (xs ys : List ℕ) (ts : List T) → subset xs ys ≡ true → begins kind ys ts ≡ false → begins kind xs ts ≡ false
begins-subset kind xs ys [] s e = refl
begins-subset kind xs ys (t ∷ ts) s e = subset-lacks xs ys (kind t) s e

pub begins-alike : {T : Type 0} (kind : T → ℕ) (xs : List ℕ) (ts us : List T) → Alike kind ts us → begins kind xs us ≡ begins kind xs ts
begins-alike kind xs [] [] h = refl
begins-alike kind xs [] (u ∷ us) h = absurd h
begins-alike kind xs (t ∷ ts) [] h = absurd h
begins-alike kind xs (t ∷ ts) (u ∷ us) h = ap (has xs) (sym h)

pub alike_self : {T : Type 0} (kind : T → ℕ) (ts : List T) → Alike kind ts ts
alike_self kind [] = tt
alike_self kind (t ∷ ts) = refl

pub alike_behind : {T : Type 0} (kind : T → ℕ) (us ts other : List T) → Alike kind ts other → Alike kind (us ++ ts) (us ++ other)
alike_behind kind [] ts other h = h
alike_behind kind (u ∷ us) ts other h = refl
