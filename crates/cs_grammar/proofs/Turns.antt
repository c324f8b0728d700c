-- Some number of rounds.
use Rattle.std.proofs.Common.{◌≡◌, inl, inr, ℕ, zero, suc, ◌+◌, ◌-◌, ◌<◌, ◌≤◌, Bool, true, false, List, [], ◌∷◌, ◌++◌, length, refl, sym, ◌∙◌, ap, subst, Ok, Err, arith}
use Rattle.std.proofs.lemmas.List.{append_assoc, length-append}
use Rattle.cs_grammar.specs.Kinds.{begins, disjoint, subset}
use Rattle.cs_grammar.specs.Grammar.{Read, Grammar, and_then, Rounds, read_rounds, turns}
use Rattle.cs_grammar.specs.Exact.{Starts, Alike, Fits, Taken, Moved, Stuck, Exact}
use Rattle.cs_grammar.proofs.Sets.{subset-has, begins-left, begins-right, begins-alike, alike_behind}
use Rattle.cs_grammar.proofs.Basics.{ok, err, ok_value, ok_rest, err_deep, err_left, not_both}
use Rattle.cs_grammar.proofs.Bind.{and_then-ok, and_then-err, both_of, fails_in, before_fits, fits_left}
use Rattle.cs_grammar.proofs.Either.{front_begins_not, begins_same}

-- one round of the reader, by what it meets

pub stop : {T A : Type 0} (kind : T → ℕ) (first : List ℕ) (room : A → Bool) (f : A → Grammar T A) (m : ℕ) (a : A) (ts : List T) → begins kind first ts ≡ false → read_rounds kind first room f m a ts ≡ Ok (a, ts)
stop kind first room f zero a ts e = refl
stop kind first room f (suc m) a ts e = rw e refl

some_left : {T : Type 0} (kind : T → ℕ) (first : List ℕ) (ts : List T) → begins kind first ts ≡ true → 0 < length ts
some_left kind first [] e = cc
some_left kind first (t ∷ ts) e = omega arith

no_room : {T A : Type 0} (kind : T → ℕ) (first : List ℕ) (room : A → Bool) (f : A → Grammar T A) (m : ℕ) (a : A) (ts : List T) → begins kind first ts ≡ true → room a ≡ false → length ts ≤ m → read_rounds kind first room f m a ts ≡ Err (true, ts)
no_room kind first room f zero a ts e r le = absurd (let some = some_left kind first ts e in omega arith)
no_room kind first room f (suc m) a ts e r le = rw (e, r) refl

pub round : {T A : Type 0} (kind : T → ℕ) (first : List ℕ) (room : A → Bool) (f : A → Grammar T A) (m : ℕ) (a : A) (ts : List T) → begins kind first ts ≡ true → room a ≡ true → read_rounds kind first room f (suc m) a ts ≡ and_then ((f a).reads ts) (read_rounds kind first room f m)
round kind first room f m a ts e r = rw (e, r) refl

fail_on : {T A : Type 0} (kind : T → ℕ) (first : List ℕ) (room : A → Bool) (f : A → Grammar T A) (m : ℕ) (a : A) (ts : List T) (deep : Bool) (left : List T) → begins kind first ts ≡ true → room a ≡ true → (f a).reads ts ≡ Err (deep, left) → length ts ≤ m → read_rounds kind first room f m a ts ≡ Err (deep, left)
fail_on kind first room f zero a ts deep left e r h le = absurd (let some = some_left kind first ts e in omega arith)
fail_on kind first room f (suc m) a ts deep left e r h le =
    round kind first room f m a ts e r ∙ and_then-err ((f a).reads ts) deep left (read_rounds kind first room f m) h

turn_on : {T A : Type 0} (kind : T → ℕ) (first ys : List ℕ) (room : A → Bool) (f : A → Grammar T A) (m : ℕ) (a b : A) (front us : List T) (r : Read T A) → subset ys first ≡ true → Starts kind ys false front → room a ≡ true → (f a).reads (front ++ us) ≡ Ok (b, us) → length (front ++ us) ≤ m → ((k : ℕ) → length us ≤ k → read_rounds kind first room f k b us ≡ r) → read_rounds kind first room f m a (front ++ us) ≡ r
turn_on kind first ys room f m a b [] us r s st o h le more = cc
turn_on kind first ys room f zero a b (t ∷ front) us r s st o h le more = absurd (omega arith)
turn_on kind first ys room f (suc m) a b (t ∷ front) us r s st o h le more =
    round kind first room f m a (t ∷ (front ++ us)) (subset-has ys first (kind t) s st) o
    ∙ (and_then-ok ((f a).reads (t ∷ (front ++ us))) b us (read_rounds kind first room f m) h ∙ more m (omega (arith, length-append front us)))

-- what is behind a value is shorter
shorter : {T : Type 0} (kind : T → ℕ) (ys : List ℕ) (ts front mid : List T) (k : ℕ) → Starts kind ys false front → ts ≡ front ++ mid → length ts ≤ suc k → length mid ≤ k
shorter kind ys ts [] mid k st e le = cc
shorter {T = T} kind ys ts (t ∷ front) mid k st e le =
    let same : length ts ≡ suc (length (front ++ mid)) = ap length e in
    omega (arith, length-append front mid)

-- what some rounds read

record MovedOn {T A : Type 0} (kind : T → ℕ) (first ys w : List ℕ) (room : A → Bool) (f : A → Grammar T A) (a : A) (ts : List T) (c : A) (rest : List T) : Type 0 where
  pub front : List T
  pub split : ts ≡ front ++ rest
  pub starts : Starts kind ys true front
  pub again : (other : List T) (m : ℕ) → Fits kind (w ++ first) rest other → length (front ++ other) ≤ m → read_rounds kind first room f m a (front ++ other) ≡ Ok (c, other)

record StuckOn {T A : Type 0} (kind : T → ℕ) (first : List ℕ) (room : A → Bool) (f : A → Grammar T A) (a : A) (ts : List T) (deep : Bool) (left : List T) : Type 0 where
  pub front : List T
  pub split : ts ≡ front ++ left
  pub same : (other : List T) (m : ℕ) → Alike kind left other → length (front ++ other) ≤ m → read_rounds kind first room f m a (front ++ other) ≡ Err (deep, other)
  pub onward : List T
  pub value : A
  pub whole : (m : ℕ) → length (front ++ onward) ≤ m → read_rounds kind first room f m a (front ++ onward) ≡ Ok (value, [])

joined : {T : Type 0} (ts us mid vs rest : List T) → ts ≡ us ++ mid → mid ≡ vs ++ rest → ts ≡ (us ++ vs) ++ rest
joined ts us mid vs rest p q = p ∙ (ap (λ m. us ++ m) q ∙ sym (append_assoc us vs rest))

-- a round begins, and then there are more or none
starts_round : {T : Type 0} (kind : T → ℕ) (ys : List ℕ) (us vs : List T) → Starts kind ys false us → Starts kind ys true (us ++ vs)
starts_round kind ys [] vs s = cc
starts_round kind ys (u ∷ us) vs s = s

-- what the reader does where there is fuel
pub data Turn {T A : Type 0} (kind : T → ℕ) (first : List ℕ) (room : A → Bool) (f : A → Grammar T A) (k : ℕ) (a : A) (ts : List T) (r : Read T A) : Type 0 where
  stops : begins kind first ts ≡ false → ok (a, ts) ≡ r → Turn kind first room f k a ts r
  too_deep : begins kind first ts ≡ true → room a ≡ false → err (true, ts) ≡ r → Turn kind first room f k a ts r
  goes : begins kind first ts ≡ true → room a ≡ true → and_then ((f a).reads ts) (read_rounds kind first room f k) ≡ r → Turn kind first room f k a ts r

pub turn : {T A : Type 0} (kind : T → ℕ) (first : List ℕ) (room : A → Bool) (f : A → Grammar T A) (k : ℕ) (a : A) (ts : List T) (r : Read T A) → read_rounds kind first room f (suc k) a ts ≡ r → Turn kind first room f k a ts r
turn kind first room f k a ts r e = by_case (begins kind first ts) (room a) refl refl
  where
    by_case : (p q : Bool) → begins kind first ts ≡ p → room a ≡ q → Turn kind first room f k a ts r
    by_case false q x o = stops x (sym (stop kind first room f (suc k) a ts x) ∙ e)
    by_case true false x o = too_deep x o (sym (no_room kind first room f (suc (length ts + k)) a ts x o (omega arith)) ∙ (same x o ∙ e))
      where
        same : begins kind first ts ≡ true → room a ≡ false → read_rounds kind first room f (suc (length ts + k)) a ts ≡ read_rounds kind first room f (suc k) a ts
        same x o = rw (x, o) refl
    by_case true true x o = goes x o (sym (round kind first room f k a ts x o) ∙ e)

rounds_sound : {T A : Type 0} (kind : T → ℕ) (first : List ℕ) (room : A → Bool) (f : A → Grammar T A) → ((b : A) (ts : List T) (c : A) (rest : List T) → (f b).reads ts ≡ Ok (c, rest) → (f b).derives ts c rest) → (k : ℕ) (a : A) (ts : List T) (c : A) (rest : List T) → read_rounds kind first room f k a ts ≡ Ok (c, rest) → (n : ℕ) × Rounds room f n a ts c rest
rounds_sound kind first room f y zero a ts c rest e = (zero, (sym (ok_value (a, ts) (c, rest) e), sym (ok_rest (a, ts) (c, rest) e)))
rounds_sound kind first room f y (suc k) a ts c rest e =
    elim (turn kind first room f k a ts (Ok (c, rest)) e) [
      | stops x h ↦ (zero, (sym (ok_value (a, ts) (c, rest) h), sym (ok_rest (a, ts) (c, rest) h)))
      | too_deep x o h ↦ absurd (not_both (c, rest) (true, ts) (sym h))
      | goes x o h ↦
          let p = both_of ((f a).reads ts) (read_rounds kind first room f k) c rest h in
          let more = rounds_sound kind first room f y k p.value p.mid c rest p.other in
          (suc more.0, (p.value, p.mid, o, y a ts p.value p.mid p.one, more.1))
    ]

rounds_heads : {T A : Type 0} (kind : T → ℕ) (ys w : List ℕ) (room : A → Bool) (f : A → Grammar T A) → ((b : A) → Exact kind (f b) ys w false) → (n : ℕ) (a : A) (ts : List T) (c : A) (rest : List T) → Rounds room f n a ts c rest → Taken kind ys true ts rest
rounds_heads kind ys w room f y zero a ts c rest p = record { front = []; split = sym p.1; starts = refl }
rounds_heads kind ys w room f y (suc n) a ts c rest p =
    let h = (y a).heads ts p.0 p.1 p.3 in
    let k = rounds_heads kind ys w room f y n p.0 p.1 c rest p.4 in
    record {
      front = h.front ++ k.front;
      split = joined ts h.front p.1 k.front rest h.split k.split;
      starts = starts_round kind ys h.front k.front h.starts;
    }

ok_pair : {T A : Type 0} (a b : A) (r s : List T) → a ≡ b → r ≡ s → ok (a, r) ≡ ok (b, s)
ok_pair a b r s e h = cc

rounds_again : {T A : Type 0} (kind : T → ℕ) (first ys w : List ℕ) (room : A → Bool) (f : A → Grammar T A) → subset ys first ≡ true → disjoint w ys ≡ true → ((b : A) → Exact kind (f b) ys w false) → (n k : ℕ) (a : A) (ts : List T) (c : A) (rest : List T) → length ts ≤ k → Rounds room f n a ts c rest → begins kind w rest ≡ false → begins kind first rest ≡ false → read_rounds kind first room f k a ts ≡ Ok (c, rest)
rounds_again kind first ys w room f s d y zero k a ts c rest le p e n =
    stop kind first room f k a ts (subst (λ us. begins kind first us ≡ false) p.1 n) ∙ ok_pair a c ts rest (sym p.0) (sym p.1)
rounds_again kind first ys w room f s d y (suc n) k a ts c rest le p e free =
    let q = rounds_heads kind ys w room f y n p.0 p.1 c rest p.4 in
    let h = (y a).heads ts p.0 p.1 p.3 in
    let behind : begins kind w p.1 ≡ false = subst (λ us. begins kind w us ≡ false) (sym q.split) (front_begins_not kind ys w true q.front rest d q.starts e) in
    let read : (f a).reads ts ≡ Ok (p.0, p.1) = (y a).again ts p.0 p.1 p.3 behind in
    subst (λ us. read_rounds kind first room f k a us ≡ Ok (c, rest)) (sym h.split)
    (turn_on kind first ys room f k a p.0 h.front p.1 (Ok (c, rest)) s h.starts p.2 (subst (λ us. (f a).reads us ≡ Ok (p.0, p.1)) h.split read) (subst (λ us. length us ≤ k) h.split le)
    (λ j lj. rounds_again kind first ys w room f s d y n j p.0 p.1 c rest lj p.4 e free))

stopped : {T A : Type 0} (kind : T → ℕ) (first ys w : List ℕ) (room : A → Bool) (f : A → Grammar T A) (a : A) (ts : List T) (c : A) (rest : List T) → begins kind first ts ≡ false → ok (a, ts) ≡ ok (c, rest) → MovedOn kind first ys w room f a ts c rest
stopped {T = T} kind first ys w room f a ts c rest x same =
    record {
      front = [];
      split = ok_rest (a, ts) (c, rest) same;
      starts = refl;
      again = λ other m fits lm. stop kind first room f m a other (free other fits) ∙ ap (λ b. ok (b, other)) (ok_value (a, ts) (c, rest) same);
    }
  where
    free : (other : List T) → Fits kind (w ++ first) rest other → begins kind first other ≡ false
    free other (inl n) = begins-right kind w first other n
    free other (inr h) = begins-alike kind first rest other h ∙ subst (λ us. begins kind first us ≡ false) (ok_rest (a, ts) (c, rest) same) x

nothing : {T : Type 0} (kind : T → ℕ) (first : List ℕ) (us : List T) → length us ≤ 0 → begins kind first us ≡ false
nothing kind first [] l = refl
nothing kind first (u ∷ us) l = absurd (omega arith)

moved_round : {T A : Type 0} (kind : T → ℕ) (first ys w : List ℕ) (room : A → Bool) (f : A → Grammar T A) (a : A) (ts : List T) (b : A) (mid : List T) (c : A) (rest : List T) → subset ys first ≡ true → disjoint w ys ≡ true → room a ≡ true → Moved kind (f a) ys w false ts b mid → MovedOn kind first ys w room f b mid c rest → MovedOn kind first ys w room f a ts c rest
moved_round kind first ys w room f a ts b mid c rest s d o h r =
    record {
      front = h.front ++ r.front;
      split = joined ts h.front mid r.front rest h.split r.split;
      starts = starts_round kind ys h.front r.front h.starts;
      again = λ other m fits lm.
          let first_fits : Fits kind w mid (r.front ++ other) =
          subst (λ us. Fits kind w us (r.front ++ other)) (sym r.split) (before_fits kind w [] ys true r.front rest other d r.starts (fits_left kind w first rest other fits))
          in
          subst (λ us. read_rounds kind first room f m a us ≡ Ok (c, other)) (sym (append_assoc h.front r.front other))
          (turn_on kind first ys room f m a b h.front (r.front ++ other) (Ok (c, other)) s h.starts o (h.again (r.front ++ other) first_fits) (subst (λ us. length us ≤ m) (append_assoc h.front r.front other) lm)
          (λ j lj. r.again other j fits lj));
    }

moved : {T A : Type 0} (kind : T → ℕ) (first ys w : List ℕ) (room : A → Bool) (f : A → Grammar T A) → subset ys first ≡ true → disjoint w ys ≡ true → ((b : A) → Exact kind (f b) ys w false) → (k : ℕ) (a : A) (ts : List T) (c : A) (rest : List T) → length ts ≤ k → read_rounds kind first room f k a ts ≡ Ok (c, rest) → MovedOn kind first ys w room f a ts c rest
moved kind first ys w room f s d y zero a ts c rest le e = stopped kind first ys w room f a ts c rest (nothing kind first ts le) e
moved kind first ys w room f s d y (suc k) a ts c rest le e =
    elim (turn kind first room f k a ts (Ok (c, rest)) e) [
      | stops x h ↦ stopped kind first ys w room f a ts c rest x h
      | too_deep x o h ↦ absurd (not_both (c, rest) (true, ts) (sym h))
      | goes x o h ↦
          let p = both_of ((f a).reads ts) (read_rounds kind first room f k) c rest h in
          let q = (y a).moves ts p.value p.mid p.one in
          let more = moved kind first ys w room f s d y k p.value p.mid c rest (shorter kind ys ts q.front p.mid k q.starts q.split le) p.other in
          moved_round kind first ys w room f a ts p.value p.mid c rest s d o q more
    ]

-- where some rounds fail

deep_here : {T A : Type 0} (kind : T → ℕ) (first : List ℕ) (room : A → Bool) (f : A → Grammar T A) (a : A) (ts : List T) (deep : Bool) (left : List T) → begins kind first ts ≡ true → room a ≡ false → err {A = A} (true, ts) ≡ err (deep, left) → StuckOn kind first room f a ts deep left
deep_here {A = A} kind first room f a ts deep left x o e =
    let here : ts ≡ left = err_left A (true, ts) (deep, left) e in
    record {
      front = [];
      split = here;
      same = λ other m alike lm.
          no_room kind first room f m a other (begins-alike kind first left other alike ∙ subst (λ us. begins kind first us ≡ true) here x) o lm
          ∙ ap (λ b. err (b, other)) (err_deep A (true, ts) (deep, left) e);
      onward = [];
      value = a;
      whole = λ m lm. stop kind first room f m a [] refl;
    }

fails_here : {T A : Type 0} (kind : T → ℕ) (first ys w : List ℕ) (room : A → Bool) (f : A → Grammar T A) (a : A) (ts : List T) (deep : Bool) (left : List T) → subset ys first ≡ true → Exact kind (f a) ys w false → begins kind first ts ≡ true → room a ≡ true → Stuck kind (f a) ts deep left → StuckOn kind first room f a ts deep left
fails_here kind first ys w room f a ts deep left s y x o k =
    record {
      front = k.front;
      split = k.split;
      same = λ other m alike lm.
          fail_on kind first room f m a (k.front ++ other) deep other (begins_same kind first k.front left other alike ∙ subst (λ us. begins kind first us ≡ true) k.split x) o (k.same other alike) lm;
      onward = k.onward;
      value = k.value;
      whole = λ m lm.
          let q = y.moves (k.front ++ k.onward) k.value [] k.whole in
          let read : (f a).reads (q.front ++ []) ≡ Ok (k.value, []) = subst (λ us. (f a).reads us ≡ Ok (k.value, [])) q.split k.whole in
          subst (λ us. read_rounds kind first room f m a us ≡ Ok (k.value, [])) (sym q.split)
          (turn_on kind first ys room f m a k.value q.front [] (Ok (k.value, [])) s q.starts o read (subst (λ us. length us ≤ m) q.split lm) (λ j lj. stop kind first room f j k.value [] refl));
    }

onward_fits : {T : Type 0} (kind : T → ℕ) (ys w : List ℕ) (us left vs ws : List T) → disjoint w ys ≡ true → Starts kind ys true ws → us ++ vs ≡ ws ++ [] → Fits kind w (us ++ left) (us ++ vs)
onward_fits kind ys w [] left vs ws d k e = inl (subst (λ ts. begins kind w ts ≡ false) (sym e) (front_begins_not kind ys w true ws [] d k refl))
onward_fits kind ys w (u ∷ us) left vs ws d k e = inr refl

fails_later : {T A : Type 0} (kind : T → ℕ) (first ys w : List ℕ) (room : A → Bool) (f : A → Grammar T A) (a : A) (ts : List T) (b : A) (mid : List T) (deep : Bool) (left : List T) → subset ys first ≡ true → disjoint w ys ≡ true → ((b : A) → Exact kind (f b) ys w false) → room a ≡ true → Moved kind (f a) ys w false ts b mid → StuckOn kind first room f b mid deep left → StuckOn kind first room f a ts deep left
fails_later kind first ys w room f a ts b mid deep left s d y o h r =
    record {
      front = h.front ++ r.front;
      split = joined ts h.front mid r.front left h.split r.split;
      same = λ other m alike lm.
          let first_fits : Fits kind w mid (r.front ++ other) = inr (subst (λ us. Alike kind us (r.front ++ other)) (sym r.split) (alike_behind kind r.front left other alike)) in
          subst (λ us. read_rounds kind first room f m a us ≡ Err (deep, other)) (sym (append_assoc h.front r.front other))
          (turn_on kind first ys room f m a b h.front (r.front ++ other) (Err (deep, other)) s h.starts o (h.again (r.front ++ other) first_fits) (subst (λ us. length us ≤ m) (append_assoc h.front r.front other) lm)
          (λ j lj. r.same other j alike lj));
      onward = r.onward;
      value = r.value;
      whole = λ m lm.
          let n = length (r.front ++ r.onward) in
          let q = moved kind first ys w room f s d y n b (r.front ++ r.onward) r.value [] (omega arith) (r.whole n (omega arith)) in
          let first_fits : Fits kind w mid (r.front ++ r.onward) =
          subst (λ us. Fits kind w us (r.front ++ r.onward)) (sym r.split) (onward_fits kind ys w r.front left r.onward q.front d q.starts q.split)
          in
          subst (λ us. read_rounds kind first room f m a us ≡ Ok (r.value, [])) (sym (append_assoc h.front r.front r.onward))
          (turn_on kind first ys room f m a b h.front (r.front ++ r.onward) (Ok (r.value, [])) s h.starts o (h.again (r.front ++ r.onward) first_fits) (subst (λ us. length us ≤ m) (append_assoc h.front r.front r.onward) lm)
          (λ j lj. r.whole j lj));
    }

fails : {T A : Type 0} (kind : T → ℕ) (first ys w : List ℕ) (room : A → Bool) (f : A → Grammar T A) → subset ys first ≡ true → disjoint w ys ≡ true → ((b : A) → Exact kind (f b) ys w false) → (k : ℕ) (a : A) (ts : List T) (deep : Bool) (left : List T) → length ts ≤ k → read_rounds kind first room f k a ts ≡ Err (deep, left) → StuckOn kind first room f a ts deep left
fails kind first ys w room f s d y zero a ts deep left le e = absurd (not_both (a, ts) (deep, left) e)
fails kind first ys w room f s d y (suc k) a ts deep left le e =
    elim (turn kind first room f k a ts (Err (deep, left)) e) [
      | stops x h ↦ absurd (not_both (a, ts) (deep, left) h)
      | too_deep x o h ↦ deep_here kind first room f a ts deep left x o h
      | goes x o h ↦
          elim (fails_in ((f a).reads ts) (read_rounds kind first room f k) deep left h) [
            | inl g ↦ fails_here kind first ys w room f a ts deep left s (y a) x o ((y a).stuck ts deep left g)
            | inr p ↦
                let q = (y a).moves ts p.value p.mid p.one in
                let more = fails kind first ys w room f s d y k p.value p.mid deep left (shorter kind ys ts q.front p.mid k q.starts q.split le) p.other in
                fails_later kind first ys w room f a ts p.value p.mid deep left s d y o q more
          ]
    ]

pub repeat : {T A : Type 0} {kind : T → ℕ} {f : A → Grammar T A} {ys w : List ℕ} (first : List ℕ) (room : A → Bool) (a : A) → subset ys first ≡ true → disjoint w ys ≡ true → ((b : A) → Exact kind (f b) ys w false) → Exact kind (turns kind first room f a) ys (w ++ first) true
repeat {kind = kind} {f = f} {ys = ys} {w = w} first room a s d y =
    record {
      sound = λ ts c rest e. rounds_sound kind first room f (λ b. (y b).sound) (length ts) a ts c rest e;
      again = λ ts c rest p e. rounds_again kind first ys w room f s d y p.0 (length ts) a ts c rest (omega arith) p.1 (begins-left kind w first rest e) (begins-right kind w first rest e);
      heads = λ ts c rest p. rounds_heads kind ys w room f y p.0 a ts c rest p.1;
      moves = λ ts c rest e.
          let m = moved kind first ys w room f s d y (length ts) a ts c rest (omega arith) e in
          record {
            front = m.front;
            split = m.split;
            starts = m.starts;
            again = λ other fits. m.again other (length (m.front ++ other)) fits (omega arith);
          };
      stuck = λ ts deep left e.
          let k = fails kind first ys w room f s d y (length ts) a ts deep left (omega arith) e in
          record {
            front = k.front;
            split = k.split;
            same = λ other alike. k.same other (length (k.front ++ other)) alike (omega arith);
            onward = k.onward;
            value = k.value;
            whole = k.whole (length (k.front ++ k.onward)) (omega arith);
          };
      lives = record { text = []; value = a; whole = refl };
    }

-- a reader's loop over the tokens that were left, one round on
pub round_on : {T A : Type 0} (kind : T → ℕ) (first : List ℕ) (room : A → Bool) (f : A → Grammar T A) (end counter : ℕ) (a b : A) (ts mid : List T) → counter < end → begins kind first ts ≡ true → room a ≡ true → (f a).reads ts ≡ Ok (b, mid) → read_rounds kind first room f (end - counter) a ts ≡ read_rounds kind first room f (end - (counter + 1)) b mid
round_on kind first room f end counter a b ts mid lt e r h =
    let fuel : end - counter ≡ suc (end - (counter + 1)) = omega arith in
    ap (λ k. read_rounds kind first room f k a ts) fuel
    ∙ (round kind first room f (end - (counter + 1)) a ts e r ∙ and_then-ok ((f a).reads ts) b mid (read_rounds kind first room f (end - (counter + 1))) h)
