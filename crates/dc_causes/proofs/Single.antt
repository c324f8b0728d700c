-- A step that is put together of steps which never have two answers never has two.
use Rattle.std.proofs.Common.{◌≡◌, ℕ, ◌+◌, ◌<◌, List, [], ◌∷◌, length, get_or, Result, Ok, Err, refl, sym, ◌∙◌, ap, subst, inl, inr, arith}
use Rattle.std.proofs.lemmas.List.{same_lists}
use Rattle.std.proofs.lemmas.Bool.{cases_order}
use Rattle.dc_causes.specs.Step.{Step, Gives, Test, Reads, Then, stop, go, Told, Traverse, Times}
use Rattle.dc_causes.specs.Causes.{InOrder, Each, Least, Below, Rounds}
use Rattle.dc_causes.specs.Answer.{IsSingle}
use Rattle.dc_causes.proofs.First.{not_off, one_index, one_first, one_least}

pub ok_is : {A F : Type 0} (a b : A) → ◌≡◌ {A = Result A F} (Ok a) (Ok b) → a ≡ b
ok_is a b e = cc

pub err_is : {A F : Type 0} (f g : F) → ◌≡◌ {A = Result A F} (Err f) (Err g) → f ≡ g
err_is f g e = cc

pub not_both : {A F : Type 0} (a : A) (f : F) → ◌≡◌ {A = Result A F} (Ok a) (Err f) → ⊥
not_both a f e = absurd cc

one_unit : {F : Type 0} (a b : Unit {0}) → ◌≡◌ {A = Result (Unit {0}) F} (Ok a) (Ok b)
one_unit a b = refl

-- a step that is read has no fault
read_not_stopped : {A F : Type 0} (Visit : ℕ → Step A F) → ((k : ℕ) → IsSingle (Visit k)) → (k : ℕ) (xs : List A) (f : F) → ((d : A) → Visit k (Ok (get_or xs k d))) → Visit k (Err f) → k < length xs → ⊥
read_not_stopped Visit one k [] f read fails lt = absurd (omega (arith, lt))
read_not_stopped Visit one k (x ∷ xs) f read fails lt =
    not_both (get_or (x ∷ xs) k x) f (one k (Ok (get_or (x ∷ xs) k x)) (Err f) (read x) fails)

pub single-gives : {A F : Type 0} (a : A) → IsSingle {F = F} (Gives a)
single-gives a r s p q = p ∙ sym q

pub single-test : {F : Type 0} (Fact : Type 0) (fault : F) → IsSingle (Test Fact fault)
single-test Fact fault (Ok a) (Ok b) p q = refl
single-test Fact fault (Ok a) (Err g) p q = absurd (q.0 p)
single-test Fact fault (Err f) (Ok b) p q = absurd (p.0 q)
single-test Fact fault (Err f) (Err g) p q = ap Err (p.1 ∙ sym q.1)

pub single-reads : {A F : Type 0} (Is : A → Type 0) (fault : F) → ((a b : A) → Is a → Is b → a ≡ b) → IsSingle (Reads Is fault)
single-reads Is fault one (Ok a) (Ok b) p q = ap Ok (one a b p q)
single-reads Is fault one (Ok a) (Err g) p q = absurd (q.0 a p)
single-reads Is fault one (Err f) (Ok b) p q = absurd (p.0 b q)
single-reads Is fault one (Err f) (Err g) p q = ap Err (p.1 ∙ sym q.1)

pub single-then : {A B F : Type 0} (First : Step A F) (Next : A → Step B F) → IsSingle First → ((a : A) → First (Ok a) → IsSingle (Next a)) → IsSingle (Then First Next)
single-then First Next one next r s (stop f p d) (stop g q e) = d ∙ ap Err (err_is f g (one (Err f) (Err g) p q)) ∙ sym e
single-then First Next one next r s (stop f p d) (go b q n) = absurd (not_both b f (one (Ok b) (Err f) q p))
single-then First Next one next r s (go a p m) (stop g q e) = absurd (not_both a g (one (Ok a) (Err g) p q))
single-then First Next one next r s (go a p m) (go b q n) =
    let same : a ≡ b = ok_is a b (one (Ok a) (Ok b) p q) in
    next b q r s (subst (λ x. Next x r) same m) n

pub single-told : {A E F : Type 0} (tell : E → F) (Inner : Step A E) → IsSingle Inner → IsSingle (Told tell Inner)
single-told tell Inner one (Ok a) (Ok b) p q = ap Ok (ok_is a b (one (Ok a) (Ok b) p q))
single-told tell Inner one (Ok a) (Err g) p q = absurd (not_both a q.0 (one (Ok a) (Err q.0) p q.1))
single-told tell Inner one (Err f) (Ok b) p q = absurd (not_both b p.0 (one (Ok b) (Err p.0) q p.1))
single-told tell Inner one (Err f) (Err g) p q = ap Err (p.2 ∙ ap tell (err_is p.0 q.0 (one (Err p.0) (Err q.0) p.1 q.1)) ∙ sym q.2)

pub single-traverse : {X A F : Type 0} (Visit : ℕ → X → Step A F) → ((k : ℕ) (x : X) → IsSingle (Visit k x)) → (k : ℕ) (xs : List X) → IsSingle (Traverse Visit k xs)
single-traverse Visit one k [] = single-gives []
single-traverse Visit one k (x ∷ xs) =
    single-then (Visit k x) _ (one k x)
    (λ a _. single-then (Traverse Visit (k + 1) xs) _ (single-traverse Visit one (k + 1) xs) (λ rest _. single-gives (a ∷ rest)))

pub single-in_order : {C F : Type 0} (Asked : C → Step (Unit {0}) F) → ((c : C) → IsSingle (Asked c)) → (causes : List C) → IsSingle (InOrder Asked causes)
single-in_order Asked one [] = single-gives tt
single-in_order Asked one (c ∷ causes) = single-then (Asked c) _ (one c) (λ _ _. single-in_order Asked one causes)

pub single-each : {X F : Type 0} (Fact : X → Type 0) (fault : ℕ → X → F) (items : List X) → IsSingle (Each Fact fault items)
single-each Fact fault items (Ok a) (Ok b) p q = refl
single-each Fact fault items (Ok a) (Err g) p q = absurd (not_off Fact items q.0 p q.1)
single-each Fact fault items (Err f) (Ok b) p q = absurd (not_off Fact items p.0 q p.1)
single-each {X} Fact fault items (Err f) (Err g) p q =
    let index = one_index Fact items p.0 q.0 p.1 q.1 in
    let item = one_first Fact items p.0 q.0 p.1 q.1 in
    ap Err (p.2 ∙ ap (λ (k : ℕ). fault k p.0) index ∙ ap (λ (x : X). fault q.1.index x) item ∙ sym q.2)

pub single-least : {F : Type 0} (Fact : ℕ → Type 0) (fault : ℕ → F) → IsSingle (Least Fact fault)
single-least Fact fault (Ok a) (Ok b) p q = refl
single-least Fact fault (Ok a) (Err g) p q = absurd (p q.0 q.1.holds)
single-least Fact fault (Err f) (Ok b) p q = absurd (q p.0 p.1.holds)
single-least Fact fault (Err f) (Err g) p q = ap Err (p.2 ∙ ap fault (one_least Fact p.0 q.0 p.1 q.1) ∙ sym q.2)

-- two first faults of a row of steps are one fault
one_stop : {F : Type 0} (Visit : ℕ → Step (Unit {0}) F) → ((n : ℕ) → IsSingle (Visit n)) → (m n : ℕ) (f g : F) → ((k : ℕ) → k < m → Visit k (Ok tt)) → Visit m (Err f) → ((k : ℕ) → k < n → Visit k (Ok tt)) → Visit n (Err g) → f ≡ g
one_stop Visit one m n f g passed p passed' q =
    elim (cases_order m n) [
      | inl e ↦ err_is f g (one n (Err f) (Err g) (subst (λ (k : ℕ). Visit k (Err f)) e p) q)
      | inr w ↦ elim w [
        | inl less ↦ absurd (not_both tt f (one m (Ok tt) (Err f) (passed' m less) p))
        | inr less ↦ absurd (not_both tt g (one n (Ok tt) (Err g) (passed n less) q))
      ]
    ]

pub single-below : {F : Type 0} (bound : ℕ) (Visit : ℕ → Step (Unit {0}) F) → ((n : ℕ) → IsSingle (Visit n)) → IsSingle (Below bound Visit)
single-below bound Visit one (Ok a) (Ok b) p q = refl
single-below bound Visit one (Ok a) (Err g) p q = absurd (not_both tt g (one q.0 (Ok tt) (Err g) (p q.0 q.1) q.3))
single-below bound Visit one (Err f) (Ok b) p q = absurd (not_both tt f (one p.0 (Ok tt) (Err f) (q p.0 p.1) p.3))
single-below bound Visit one (Err f) (Err g) p q = ap Err (one_stop Visit one p.0 q.0 f g p.2 p.3 q.2 q.3)

pub single-rounds : {F : Type 0} (Round : ℕ → Step (Unit {0}) F) → ((n : ℕ) → IsSingle (Round n)) → IsSingle (Rounds Round)
single-rounds Round one (Ok a) (Ok b) p q = refl
single-rounds Round one (Ok a) (Err g) p q = absurd (not_both tt g (one q.0 (Ok tt) (Err g) (p q.0) q.2))
single-rounds Round one (Err f) (Ok b) p q = absurd (not_both tt f (one p.0 (Ok tt) (Err f) (q p.0) p.2))
single-rounds Round one (Err f) (Err g) p q = ap Err (one_stop Round one p.0 q.0 f g p.1 p.2 q.1 q.2)

pub single-times : {A F : Type 0} (count : ℕ) (Visit : ℕ → Step A F) → ((k : ℕ) → IsSingle (Visit k)) → IsSingle (Times count Visit)
single-times {A} count Visit one (Ok xs) (Ok ys) p q =
    ap Ok (same_lists xs ys (p.0 ∙ sym q.0) (λ k d lt.
    let less : k < count = omega (arith, p.0, lt) in
    ok_is (get_or xs k d) (get_or ys k d) (one k (Ok (get_or xs k d)) (Ok (get_or ys k d)) (p.1 k d less) (q.1 k d less))))
single-times {A} count Visit one (Ok xs) (Err g) p q = absurd (read_not_stopped Visit one q.0 xs g (λ d. p.1 q.0 d q.1) q.3 (omega (arith, p.0, q.1)))
single-times {A} count Visit one (Err f) (Ok ys) p q = absurd (read_not_stopped Visit one p.0 ys f (λ d. q.1 p.0 d p.1) p.3 (omega (arith, q.0, p.1)))
single-times {A} count Visit one (Err f) (Err g) p q =
    elim (cases_order p.0 q.0) [
      | inl e ↦ ap Err (err_is f g (one q.0 (Err f) (Err g) (subst (λ (k : ℕ). Visit k (Err f)) e p.3) q.3))
      | inr w ↦ elim w [
        | inl less ↦ (let a = q.2 p.0 less in absurd (not_both a.0 f (one p.0 (Ok a.0) (Err f) a.1 p.3)))
        | inr less ↦ (let a = p.2 q.0 less in absurd (not_both a.0 g (one q.0 (Ok a.0) (Err g) a.1 q.3)))
      ]
    ]
