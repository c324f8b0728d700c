-- Nothing, one token, and wider kinds.
use Rattle.std.proofs.Common.{◌≡◌, inl, inr, ℕ, Bool, true, false, List, [], ◌∷◌, refl, sym, ◌∙◌, ap, subst, Ok, Err}
use Rattle.cs_grammar.specs.Kinds.{has, begins, subset}
use Rattle.cs_grammar.specs.Grammar.{Read, Grammar, gives, one, TakesOne, read_one}
use Rattle.cs_grammar.specs.Exact.{Starts, Alike, Fits, Taken, Moved, Exact}
use Rattle.cs_grammar.proofs.Sets.{subset-has, begins-subset}

abbrev pub ok : {T A : Type 0} → A × List T → Read T A
ok p = Ok p

abbrev pub err : {T A : Type 0} → Bool × List T → Read T A
err e = Err e

pub ok_same : {T A : Type 0} (p q : A × List T) → ok p ≡ ok q → p ≡ q
ok_same p q e = cc

pub ok_value : {T A : Type 0} (p q : A × List T) → ok p ≡ ok q → p.0 ≡ q.0
ok_value p q e = ap (λ r. r.0) (ok_same p q e)

pub ok_rest : {T A : Type 0} (p q : A × List T) → ok p ≡ ok q → p.1 ≡ q.1
ok_rest p q e = ap (λ r. r.1) (ok_same p q e)

pub err_same : {T : Type 0} (A : Type 0) (p q : Bool × List T) → err {A = A} p ≡ err q → p ≡ q
err_same A p q e = cc

pub err_deep : {T : Type 0} (A : Type 0) (p q : Bool × List T) → err {A = A} p ≡ err q → p.0 ≡ q.0
err_deep A p q e = ap (λ r. r.0) (err_same A p q e)

pub err_left : {T : Type 0} (A : Type 0) (p q : Bool × List T) → err {A = A} p ≡ err q → p.1 ≡ q.1
err_left A p q e = ap (λ r. r.1) (err_same A p q e)

pub not_both : {T A : Type 0} (p : A × List T) (e : Bool × List T) → ok p ≡ err e → ⊥
not_both p e h = cc

-- nothing

pub exact_gives : {T A : Type 0} {kind : T → ℕ} (a : A) → Exact kind (gives a) [] [] true
exact_gives {T = T} {A = A} {kind = kind} a =
    record {
      sound = λ ts b rest e. (sym (ok_value (a, ts) (b, rest) e), sym (ok_rest (a, ts) (b, rest) e));
      again = λ ts b rest d n. subst (λ (p : A × List T). ok (a, ts) ≡ ok p) (pair (sym d.0) (sym d.1)) refl;
      heads = λ ts b rest d. record { front = []; split = sym d.1; starts = refl };
      moves = λ ts b rest e. record {
        front = [];
        split = ok_rest (a, ts) (b, rest) e;
        starts = refl;
        again = λ other fits. ap (λ c. ok (c, other)) (ok_value (a, ts) (b, rest) e);
      };
      stuck = λ ts deep left e. absurd (not_both (a, ts) (deep, left) e);
      lives = record { text = []; value = a; whole = refl };
    }
  where
    pair : {a b : A} {r s : List T} → a ≡ b → r ≡ s → (let p : A × List T = (a, r) in p) ≡ (b, s)
    pair e h = cc

-- one token

pub read_one-is : {T A : Type 0} (kind : T → ℕ) (kinds : List ℕ) (f : T → A) (t : T) (ts : List T) → has kinds (kind t) ≡ true → read_one kind kinds f (t ∷ ts) ≡ Ok (f t, ts)
read_one-is kind kinds f t ts h = rw h refl

read_one-not : {T A : Type 0} (kind : T → ℕ) (kinds : List ℕ) (f : T → A) (t : T) (ts : List T) → has kinds (kind t) ≡ false → read_one kind kinds f (t ∷ ts) ≡ Err (false, t ∷ ts)
read_one-not kind kinds f t ts h = rw h refl

pub one_sound : {T A : Type 0} (kind : T → ℕ) (kinds : List ℕ) (f : T → A) (ts : List T) (a : A) (rest : List T) → read_one kind kinds f ts ≡ Ok (a, rest) → TakesOne kind kinds f ts a rest
one_sound kind kinds f [] a rest e = absurd (not_both (a, rest) (false, []) (sym e))
one_sound kind kinds f (t ∷ ts) a rest e = by_case (has kinds (kind t)) refl
  where
    by_case : (b : Bool) → has kinds (kind t) ≡ b → TakesOne kind kinds f (t ∷ ts) a rest
    by_case true h =
        let same = sym (read_one-is kind kinds f t ts h) ∙ e in
        (h, sym (ok_value (f t, ts) (a, rest) same), sym (ok_rest (f t, ts) (a, rest) same))
    by_case false h = absurd (not_both (a, rest) (false, t ∷ ts) (sym e ∙ read_one-not kind kinds f t ts h))

pub one_again : {T A : Type 0} (kind : T → ℕ) (kinds : List ℕ) (f : T → A) (ts : List T) (a : A) (rest : List T) → TakesOne kind kinds f ts a rest → read_one kind kinds f ts ≡ Ok (a, rest)
one_again kind kinds f [] a rest d = absurd d
one_again {T = T} {A = A} kind kinds f (t ∷ ts) a rest d = read_one-is kind kinds f t ts d.0 ∙ pair (sym d.1) (sym d.2)
  where
    pair : {a b : A} {r s : List T} → a ≡ b → r ≡ s → ok (a, r) ≡ ok (b, s)
    pair e h = cc

one_heads : {T A : Type 0} (kind : T → ℕ) (kinds : List ℕ) (f : T → A) (ts : List T) (a : A) (rest : List T) → TakesOne kind kinds f ts a rest → Taken kind kinds false ts rest
one_heads kind kinds f [] a rest d = absurd d
one_heads kind kinds f (t ∷ ts) a rest d = record { front = t ∷ []; split = ap (λ us. t ∷ us) (sym d.2); starts = d.0 }

one_moves : {T A : Type 0} (kind : T → ℕ) (kinds : List ℕ) (f : T → A) (ts : List T) (a : A) (rest : List T) → TakesOne kind kinds f ts a rest → Moved kind (one kind kinds f) kinds [] false ts a rest
one_moves kind kinds f [] a rest d = absurd d
one_moves kind kinds f (t ∷ ts) a rest d =
    record {
      front = t ∷ [];
      split = ap (λ us. t ∷ us) (sym d.2);
      starts = d.0;
      again = λ other fits. read_one-is kind kinds f t other d.0 ∙ ap (λ c. ok (c, other)) (sym d.1);
    }

pub one_left : {T A : Type 0} (kind : T → ℕ) (kinds : List ℕ) (f : T → A) (ts : List T) (deep : Bool) (left : List T) → read_one kind kinds f ts ≡ Err (deep, left) → (deep ≡ false) × (left ≡ ts) × (begins kind kinds ts ≡ false)
one_left {A = A} kind kinds f [] deep left e = (sym (err_deep A (false, []) (deep, left) e), sym (err_left A (false, []) (deep, left) e), refl)
one_left {A = A} kind kinds f (t ∷ ts) deep left e = by_case (has kinds (kind t)) refl
  where
    by_case : (b : Bool) → has kinds (kind t) ≡ b → (deep ≡ false) × (left ≡ t ∷ ts) × (begins kind kinds (t ∷ ts) ≡ false)
    by_case true h = absurd (not_both (f t, ts) (deep, left) (sym (read_one-is kind kinds f t ts h) ∙ e))
    by_case false h =
        let same = sym (read_one-not kind kinds f t ts h) ∙ e in
        (sym (err_deep A (false, t ∷ ts) (deep, left) same), sym (err_left A (false, t ∷ ts) (deep, left) same), h)

one_same : {T A : Type 0} (kind : T → ℕ) (kinds : List ℕ) (f : T → A) (ts other : List T) → begins kind kinds ts ≡ false → Alike kind ts other → read_one kind kinds f other ≡ Err (false, other)
one_same kind kinds f [] [] n h = refl
one_same kind kinds f [] (u ∷ us) n h = absurd h
one_same kind kinds f (t ∷ ts) [] n h = absurd h
one_same kind kinds f (t ∷ ts) (u ∷ us) n h = read_one-not kind kinds f u us (ap (has kinds) (sym h) ∙ n)

-- a sample token of one of the kinds shows that some list is read
pub exact_one : {T A : Type 0} {kind : T → ℕ} (kinds : List ℕ) (f : T → A) (sample : T) → has kinds (kind sample) ≡ true → Exact kind (one kind kinds f) kinds [] false
exact_one {kind = kind} kinds f sample s =
    record {
      sound = one_sound kind kinds f;
      again = λ ts a rest d n. one_again kind kinds f ts a rest d;
      heads = one_heads kind kinds f;
      moves = λ ts a rest e. one_moves kind kinds f ts a rest (one_sound kind kinds f ts a rest e);
      stuck = λ ts deep left e.
          let is = one_left kind kinds f ts deep left e in
          record {
            front = [];
            split = sym is.1;
            same = λ other h.
                one_same kind kinds f ts other is.2 (subst (λ us. Alike kind us other) is.1 h) ∙ ap (λ d. err (d, other)) (sym is.0);
            onward = sample ∷ [];
            value = f sample;
            whole = read_one-is kind kinds f sample [] s;
          };
      lives = record { text = sample ∷ []; value = f sample; whole = read_one-is kind kinds f sample [] s };
    }

-- wider kinds

starts_wider : {T : Type 0} (kind : T → ℕ) (xs ys : List ℕ) (null : Bool) (ts : List T) → subset xs ys ≡ true → Starts kind xs null ts → Starts kind ys null ts
starts_wider kind xs ys null [] s h = h
starts_wider kind xs ys null (t ∷ ts) s h = subset-has xs ys (kind t) s h

fits_wider : {T : Type 0} (kind : T → ℕ) (xs ys : List ℕ) (rest other : List T) → subset xs ys ≡ true → Fits kind ys rest other → Fits kind xs rest other
fits_wider kind xs ys rest other s (inl e) = inl (begins-subset kind xs ys other s e)
fits_wider kind xs ys rest other s (inr h) = inr h

pub wider : {T A : Type 0} {kind : T → ℕ} {g : Grammar T A} {first more follow further : List ℕ} {null : Bool} → subset first more ≡ true → subset follow further ≡ true → Exact kind g first follow null → Exact kind g more further null
wider {kind = kind} {g = g} {first = first} {more = more} {follow = follow} {further = further} {null = null} s w x =
    record {
      sound = x.sound;
      again = λ ts a rest d n. x.again ts a rest d (begins-subset kind follow further rest w n);
      heads = λ ts a rest d.
          let h = x.heads ts a rest d in
          record { front = h.front; split = h.split; starts = starts_wider kind first more null h.front s h.starts };
      moves = λ ts a rest e.
          let m = x.moves ts a rest e in
          record {
            front = m.front;
            split = m.split;
            starts = starts_wider kind first more null m.front s m.starts;
            again = λ other fits. m.again other (fits_wider kind follow further rest other w fits);
          };
      stuck = x.stuck;
      lives = x.lives;
    }
