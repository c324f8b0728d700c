-- A step that is put together of steps which have one answer each has one.
use Rattle.std.proofs.Common.{◌≡◌, ◌⊎◌, ℕ, zero, suc, ◌+◌, ◌<◌, ◌≤◌, List, [], ◌∷◌, ◌++◌, length, get_or, All, Result, Ok, Err, refl, sym, ◌∙◌, subst, inl, inr, arith}
use Rattle.std.proofs.lemmas.Bool.{cases_lt}
use Rattle.std.proofs.lemmas.List.{length-append, get_or_append_left, get_or_push}
use Rattle.dc_causes.specs.First.{IsFirstOff, IsLeast}
use Rattle.dc_causes.specs.Step.{Step, Gives, Test, Reads, Then, stop, go, Told, Traverse, Times}
use Rattle.dc_causes.specs.Causes.{InOrder, Each, Least, Below, Rounds}
use Rattle.dc_causes.specs.Answer.{Decided, IsExact}
use Rattle.dc_causes.proofs.Single.{single-gives, single-test, single-reads, single-then, single-told, single-times, single-each, single-least, single-below, single-rounds}

pub exact-gives : {A F : Type 0} (a : A) → IsExact {F = F} (Gives a)
exact-gives a = record { some = (Ok a, refl); one = single-gives a }

some-test : {F : Type 0} (Fact : Type 0) (fault : F) → Decided Fact → (r : Result (Unit {0}) F) × Test Fact fault r
some-test Fact fault (inl holds) = (Ok tt, holds)
some-test Fact fault (inr fails) = (Err fault, (fails, refl))

pub exact-test : {F : Type 0} (Fact : Type 0) (fault : F) → Decided Fact → IsExact (Test Fact fault)
exact-test Fact fault d = record { some = some-test Fact fault d; one = single-test Fact fault }

some-reads : {A F : Type 0} (Is : A → Type 0) (fault : F) → Decided ((a : A) × Is a) → (r : Result A F) × Reads Is fault r
some-reads Is fault (inl is) = (Ok is.0, is.1)
some-reads Is fault (inr none) = (Err fault, ((λ a is. none (a, is)), refl))

pub exact-reads : {A F : Type 0} (Is : A → Type 0) (fault : F) → Decided ((a : A) × Is a) → ((a b : A) → Is a → Is b → a ≡ b) → IsExact (Reads Is fault)
exact-reads Is fault d one = record { some = some-reads Is fault d; one = single-reads Is fault one }

some-then : {A B F : Type 0} (First : Step A F) (Next : A → Step B F) (r : Result A F) → First r → ((a : A) → First (Ok a) → IsExact (Next a)) → (s : Result B F) × Then First Next s
some-then First Next (Ok a) p next = let n = (next a p).some in (n.0, go a p n.1)
some-then First Next (Err f) p next = (Err f, stop f p refl)

pub exact-then : {A B F : Type 0} (First : Step A F) (Next : A → Step B F) → IsExact First → ((a : A) → First (Ok a) → IsExact (Next a)) → IsExact (Then First Next)
exact-then First Next first next =
    record {
      some = some-then First Next first.some.0 first.some.1 next;
      one = single-then First Next first.one (λ a p. (next a p).one);
    }

some-told : {A E F : Type 0} (tell : E → F) (Inner : Step A E) (r : Result A E) → Inner r → (s : Result A F) × Told tell Inner s
some-told tell Inner (Ok a) p = (Ok a, p)
some-told tell Inner (Err e) p = (Err (tell e), (e, p, refl))

pub exact-told : {A E F : Type 0} (tell : E → F) (Inner : Step A E) → IsExact Inner → IsExact (Told tell Inner)
exact-told tell Inner inner =
    record { some = some-told tell Inner inner.some.0 inner.some.1; one = single-told tell Inner inner.one }

pub exact-traverse : {X A F : Type 0} (Visit : ℕ → X → Step A F) → ((k : ℕ) (x : X) → IsExact (Visit k x)) → (k : ℕ) (xs : List X) → IsExact (Traverse Visit k xs)
exact-traverse Visit exact k [] = exact-gives []
exact-traverse Visit exact k (x ∷ xs) =
    exact-then (Visit k x) _ (exact k x)
    (λ a _. exact-then (Traverse Visit (k + 1) xs) _ (exact-traverse Visit exact (k + 1) xs) (λ rest _. exact-gives (a ∷ rest)))

pub exact-in_order : {C F : Type 0} (Asked : C → Step (Unit {0}) F) → ((c : C) → IsExact (Asked c)) → (causes : List C) → IsExact (InOrder Asked causes)
exact-in_order Asked exact [] = exact-gives tt
exact-in_order Asked exact (c ∷ causes) = exact-then (Asked c) _ (exact c) (λ _ _. exact-in_order Asked exact causes)

-- either the fact holds of each item, or there is a first of which it doesn't
pub all_or_first : {X : Type 0} (Fact : X → Type 0) → ((x : X) → Decided (Fact x)) → (xs : List X) → All Fact xs ⊎ ((x : X) × IsFirstOff Fact xs x)
all_or_first Fact decided [] = inl (λ k d lt. absurd (omega (arith, lt)))
all_or_first {X} Fact decided (x ∷ xs) = here (decided x) (all_or_first Fact decided xs) where
  here : Decided (Fact x) → (All Fact xs ⊎ ((y : X) × IsFirstOff Fact xs y)) → All Fact (x ∷ xs) ⊎ ((y : X) × IsFirstOff Fact (x ∷ xs) y)
  here (inr off) rest =
      inr (x, record { index = 0; within = omega arith; is = refl; before = λ k d lt. absurd (omega (arith, lt)); off = off })
  here (inl holds) (inl all) = inl (elim [ zero ↦ λ d lt. holds | suc k ↦ λ d lt. all k d (omega (arith, lt)) ])
  here (inl holds) (inr (y, first)) =
      inr (
        y,
        record {
          index = suc first.index;
          within = omega (arith, first.within);
          is = first.is;
          before = elim [ zero ↦ λ d lt. holds | suc k ↦ λ d lt. first.before k d (omega (arith, lt)) ];
          off = first.off;
        },
      )

some-each : {X F : Type 0} (Fact : X → Type 0) (fault : ℕ → X → F) (items : List X) → (All Fact items ⊎ ((x : X) × IsFirstOff Fact items x)) → (r : Result (Unit {0}) F) × Each Fact fault items r
some-each Fact fault items (inl all) = (Ok tt, all)
some-each Fact fault items (inr (x, first)) = (Err (fault first.index x), (x, first, refl))

pub exact-each : {X F : Type 0} (Fact : X → Type 0) (fault : ℕ → X → F) → ((x : X) → Decided (Fact x)) → (items : List X) → IsExact (Each Fact fault items)
exact-each Fact fault decided items =
    record { some = some-each Fact fault items (all_or_first Fact decided items); one = single-each Fact fault items }

some-below : {F : Type 0} (Visit : ℕ → Step (Unit {0}) F) → ((n : ℕ) → IsExact (Visit n)) → (bound : ℕ) → (r : Result (Unit {0}) F) × Below bound Visit r
some-below Visit exact zero = (Ok tt, λ n lt. absurd (omega (arith, lt)))
some-below {F} Visit exact (suc b) = more (some-below Visit exact b).0 (some-below Visit exact b).1 (exact b).some.0 (exact b).some.1 where
  more : (r : Result (Unit {0}) F) → Below b Visit r → (s : Result (Unit {0}) F) → Visit b s → (t : Result (Unit {0}) F) × Below (suc b) Visit t
  more (Err f) p s q = (Err f, (p.0, omega (arith, p.1), p.2, p.3))
  more (Ok a) p (Err f) q = (Err f, (b, omega arith, p, q))
  more (Ok a) p (Ok c) q = (
    Ok tt,
    λ n lt. elim (cases_lt n b) [
      | inl less ↦ p n less
      | inr le ↦ let e : b ≡ n = omega (arith, le, lt) in subst (λ (k : ℕ). Visit k (Ok tt)) e q
    ],
  )

pub exact-below : {F : Type 0} (bound : ℕ) (Visit : ℕ → Step (Unit {0}) F) → ((n : ℕ) → IsExact (Visit n)) → IsExact (Below bound Visit)
exact-below bound Visit exact =
    record { some = some-below Visit exact bound; one = single-below bound Visit (λ n. (exact n).one) }

some-rounds : {F : Type 0} (Round : ℕ → Step (Unit {0}) F) (bound : ℕ) → ((n : ℕ) → bound ≤ n → Round n (Ok tt)) → (r : Result (Unit {0}) F) → Below bound Round r → (s : Result (Unit {0}) F) × Rounds Round s
some-rounds Round bound beyond (Ok a) p =
    (Ok tt, λ n. elim (cases_lt n bound) [ inl less ↦ p n less | inr le ↦ beyond n le ])
some-rounds Round bound beyond (Err f) p = (Err f, (p.0, p.2, p.3))

-- where from some round on each is passed
pub exact-rounds : {F : Type 0} (Round : ℕ → Step (Unit {0}) F) → ((n : ℕ) → IsExact (Round n)) → (bound : ℕ) → ((n : ℕ) → bound ≤ n → Round n (Ok tt)) → IsExact (Rounds Round)
exact-rounds Round exact bound beyond =
    let below = some-below Round exact bound in
    record { some = some-rounds Round bound beyond below.0 below.1; one = single-rounds Round (λ n. (exact n).one) }

-- either the fact holds of no number below the bound, or there is a least of which it does
pub none_or_least : (Fact : ℕ → Type 0) → ((n : ℕ) → Decided (Fact n)) → (bound : ℕ) → ((n : ℕ) → n < bound → Fact n → ⊥) ⊎ ((n : ℕ) × IsLeast Fact n)
none_or_least Fact decided zero = inl (λ n lt. absurd (omega (arith, lt)))
none_or_least Fact decided (suc b) = more (none_or_least Fact decided b) (decided b) where
  more : (((n : ℕ) → n < b → Fact n → ⊥) ⊎ ((n : ℕ) × IsLeast Fact n)) → Decided (Fact b) → ((n : ℕ) → n < suc b → Fact n → ⊥) ⊎ ((n : ℕ) × IsLeast Fact n)
  more (inr found) d = inr found
  more (inl none) (inl holds) = inr (b, record { holds = holds; least = none })
  more (inl none) (inr fails) =
      inl (λ n lt holds. elim (cases_lt n b) [
        | inl less ↦ none n less holds
        | inr le ↦ let e : n ≡ b = omega (arith, le, lt) in fails (subst Fact e holds)
      ])

some-least : {F : Type 0} (Fact : ℕ → Type 0) (fault : ℕ → F) (bound : ℕ) → ((n : ℕ) → Fact n → n < bound) → (((n : ℕ) → n < bound → Fact n → ⊥) ⊎ ((n : ℕ) × IsLeast Fact n)) → (r : Result (Unit {0}) F) × Least Fact fault r
some-least Fact fault bound below (inl none) = (Ok tt, λ n holds. none n (below n holds) holds)
some-least Fact fault bound below (inr (n, least)) = (Err (fault n), (n, least, refl))

-- where the fact holds of numbers below the bound alone
pub exact-least : {F : Type 0} (Fact : ℕ → Type 0) (fault : ℕ → F) → ((n : ℕ) → Decided (Fact n)) → (bound : ℕ) → ((n : ℕ) → Fact n → n < bound) → IsExact (Least Fact fault)
exact-least Fact fault decided bound below =
    record { some = some-least Fact fault bound below (none_or_least Fact decided bound); one = single-least Fact fault }

some-times : {A F : Type 0} (Visit : ℕ → Step A F) → ((k : ℕ) → IsExact (Visit k)) → (count : ℕ) → (r : Result (List A) F) × Times count Visit r
some-times Visit exact zero = (Ok [], (refl, λ k d lt. absurd (omega (arith, lt))))
some-times {A} {F} Visit exact (suc n) = more (some-times Visit exact n).0 (some-times Visit exact n).1 (exact n).some.0 (exact n).some.1 where
  more : (r : Result (List A) F) → Times n Visit r → (s : Result A F) → Visit n s → (t : Result (List A) F) × Times (suc n) Visit t
  more (Err f) p s q = (Err f, (p.0, omega (arith, p.1), p.2, p.3))
  more (Ok xs) p (Err f) q = (Err f, (n, omega arith, (λ j lt. read xs p.0 (λ d. p.1 j d lt) lt), q)) where
    read : {j : ℕ} (ys : List A) → length ys ≡ n → ((d : A) → Visit j (Ok (get_or ys j d))) → j < n → (a : A) × Visit j (Ok a)
    read [] e is lt = absurd (omega (arith, e, lt))
    read {j} (y ∷ ys) e is lt = (get_or (y ∷ ys) j y, is y)
  more (Ok xs) p (Ok x) q = (
    Ok (xs ++ (x ∷ [])),
    (
      let long : length xs + 1 ≡ suc n = omega (arith, p.0) in length-append xs (x ∷ []) ∙ long,
      λ k d lt. elim (cases_lt k n) [
        | inl less ↦ subst (λ (a : A). Visit k (Ok a)) (sym (get_or_append_left xs (x ∷ []) d k (omega (arith, p.0, less)))) (p.1 k d less)
        | inr le ↦ (let e : n ≡ k = omega (arith, le, lt) in let at : length xs ≡ k = p.0 ∙ e in
            subst (λ (a : A). Visit k (Ok a)) (sym (get_or_push xs x d k at)) (subst (λ (m : ℕ). Visit m (Ok x)) e q))
      ],
    ),
  )

pub exact-times : {A F : Type 0} (count : ℕ) (Visit : ℕ → Step A F) → ((k : ℕ) → IsExact (Visit k)) → IsExact (Times count Visit)
exact-times count Visit exact =
    record { some = some-times Visit exact count; one = single-times count Visit (λ k. (exact k).one) }
