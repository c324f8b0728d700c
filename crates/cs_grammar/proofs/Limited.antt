-- What depth leaves no room for, and what was read before doesn't allow.
use Rattle.std.proofs.Common.{◌≡◌, inl, inr, ℕ, Bool, true, false, cond, List, [], ◌∷◌, ◌++◌, refl, sym, ◌∙◌, ap, subst, Ok, Err}
use Rattle.cs_grammar.specs.Kinds.{begins, disjoint, subset}
use Rattle.cs_grammar.specs.Grammar.{Grammar, limited, guarded, choice}
use Rattle.cs_grammar.specs.Exact.{Starts, Fits, Moved, Stuck, Exact}
use Rattle.cs_grammar.proofs.Sets.{has-right, begins-left, begins-right, begins-alike}
use Rattle.cs_grammar.proofs.Basics.{err, err_deep, err_left, not_both}
use Rattle.cs_grammar.proofs.Either.{or, front_begins_not, begins_same, fits_part}

tests : {T A : Type 0} (kind : T → ℕ) (kinds : List ℕ) (h : Grammar T A) (ts : List T) (b : Bool) → begins kind kinds ts ≡ b → (limited kind kinds h).reads ts ≡ cond b (Err (true, ts)) (h.reads ts)
tests kind kinds h ts b e = ap (λ c. cond c (err (true, ts)) (h.reads ts)) e

pub within : {T A : Type 0} {kind : T → ℕ} {h : Grammar T A} {ys w : List ℕ} {null : Bool} (kinds : List ℕ) → disjoint kinds ys ≡ true → Exact kind h ys w null → Exact kind (limited kind kinds h) ys (w ++ cond null kinds []) null
within {T = T} {A = A} {kind = kind} {h = h} {ys = ys} {w = w} {null = null} kinds d y =
    record {
      sound = λ ts a rest e. y.sound ts a rest (reads_so ts a rest (begins kind kinds ts) refl e).1;
      again = λ ts a rest p e.
          let k = y.heads ts a rest p in
          let free : begins kind kinds ts ≡ false =
          subst (λ us. begins kind kinds us ≡ false) (sym k.split) (front_begins_not kind ys kinds null k.front rest d k.starts (begins-right kind w (cond null kinds []) rest e))
          in
          tests kind kinds h ts false free ∙ y.again ts a rest p (begins-left kind w (cond null kinds []) rest e);
      heads = y.heads;
      moves = moves;
      stuck = λ ts deep left e. stuck_at ts deep left (begins kind kinds ts) refl e;
      lives = let p = y.lives in record { text = p.text; value = p.value; whole = whole p.text p.value p.whole };
    }
  where
    reads_so : (ts : List T) (a : A) (rest : List T) (b : Bool) → begins kind kinds ts ≡ b → (limited kind kinds h).reads ts ≡ Ok (a, rest) → (begins kind kinds ts ≡ false) × (h.reads ts ≡ Ok (a, rest))
    reads_so ts a rest true is e = absurd (not_both (a, rest) (true, ts) (sym e ∙ tests kind kinds h ts true is))
    reads_so ts a rest false is e = (is, sym (tests kind kinds h ts false is) ∙ e)

    whole : (us : List T) (a : A) → h.reads us ≡ Ok (a, []) → (limited kind kinds h).reads us ≡ Ok (a, [])
    whole us a e =
        let m = y.moves us a [] e in
        tests kind kinds h us false (subst (λ ts. begins kind kinds ts ≡ false) (sym m.split) (front_begins_not kind ys kinds null m.front [] d m.starts refl)) ∙ e

    still : (us rest other : List T) → begins kind kinds (us ++ rest) ≡ false → Starts kind ys null us → Fits kind (w ++ cond null kinds []) rest other → begins kind kinds (us ++ other) ≡ false
    still us rest other n k (inl e) = front_begins_not kind ys kinds null us other d k (begins-right kind w (cond null kinds []) other e)
    still us rest other n k (inr e) = begins_same kind kinds us rest other e ∙ n

    moves : (ts : List T) (a : A) (rest : List T) → (limited kind kinds h).reads ts ≡ Ok (a, rest) → Moved kind (limited kind kinds h) ys (w ++ cond null kinds []) null ts a rest
    moves ts a rest e =
        let so = reads_so ts a rest (begins kind kinds ts) refl e in
        let m = y.moves ts a rest so.1 in
        record {
          front = m.front;
          split = m.split;
          starts = m.starts;
          again = λ other fits.
              tests kind kinds h (m.front ++ other) false (still m.front rest other (subst (λ us. begins kind kinds us ≡ false) m.split so.0) m.starts fits)
              ∙ m.again other (fits_part kind w (w ++ cond null kinds []) rest other (begins-left kind w (cond null kinds []) other) fits);
        }

    stuck_at : (ts : List T) (deep : Bool) (left : List T) (b : Bool) → begins kind kinds ts ≡ b → (limited kind kinds h).reads ts ≡ Err (deep, left) → Stuck kind (limited kind kinds h) ts deep left
    stuck_at ts deep left true is e =
        let same = sym (tests kind kinds h ts true is) ∙ e in
        let here : ts ≡ left = err_left A (true, ts) (deep, left) same in
        let p = y.lives in
        record {
          front = [];
          split = here;
          same = λ other alike.
              tests kind kinds h other true (begins-alike kind kinds left other alike ∙ subst (λ us. begins kind kinds us ≡ true) here is)
              ∙ ap (λ b. err (b, other)) (err_deep A (true, ts) (deep, left) same);
          onward = p.text;
          value = p.value;
          whole = whole p.text p.value p.whole;
        }
    stuck_at ts deep left false is e =
        let k = y.stuck ts deep left (sym (tests kind kinds h ts false is) ∙ e) in
        record {
          front = k.front;
          split = k.split;
          same = λ other alike.
              tests kind kinds h (k.front ++ other) false (begins_same kind kinds k.front left other alike ∙ subst (λ us. begins kind kinds us ≡ false) k.split is)
              ∙ k.same other alike;
          onward = k.onward;
          value = k.value;
          whole = whole (k.front ++ k.onward) k.value k.whole;
        }

-- more kinds in front of those that are told

shown_first : {T : Type 0} (kind : T → ℕ) (xs ys : List ℕ) (null : Bool) (us : List T) → Starts kind ys null us → Starts kind (xs ++ ys) null us
shown_first kind xs ys null [] s = s
shown_first kind xs ys null (u ∷ us) s = has-right xs ys (kind u) s

pub padded : {T A : Type 0} {kind : T → ℕ} {g : Grammar T A} {ys w : List ℕ} {null : Bool} (xs v : List ℕ) → Exact kind g ys w null → Exact kind g (xs ++ ys) (v ++ w) null
padded {kind = kind} {g = g} {ys = ys} {w = w} {null = null} xs v x =
    record {
      sound = x.sound;
      again = λ ts a rest d n. x.again ts a rest d (begins-right kind v w rest n);
      heads = λ ts a rest d.
          let h = x.heads ts a rest d in
          record { front = h.front; split = h.split; starts = shown_first kind xs ys null h.front h.starts };
      moves = λ ts a rest e.
          let m = x.moves ts a rest e in
          record {
            front = m.front;
            split = m.split;
            starts = shown_first kind xs ys null m.front m.starts;
            again = λ other fits. m.again other (fits_part kind w (v ++ w) rest other (begins-right kind v w other) fits);
          };
      stuck = x.stuck;
      lives = x.lives;
    }

pub guard : {T A : Type 0} {kind : T → ℕ} {g h : Grammar T A} {xs ys v w : List ℕ} {null : Bool} (first : List ℕ) (room : Bool) → subset xs first ≡ true → disjoint first ys ≡ true → Exact kind g xs v false → Exact kind h ys w null → Exact kind (guarded kind room first g h) (xs ++ ys) (v ++ (w ++ cond null first [])) null
guard first true s d x y = or first s d x y
guard {xs = xs} {v = v} first false s d x y = padded xs v (within first d y)

pub choose : {T A : Type 0} {kind : T → ℕ} {g h : Grammar T A} {xs ys v w : List ℕ} {null : Bool} (first : List ℕ) (may : Bool) → subset xs first ≡ true → disjoint first ys ≡ true → Exact kind g xs v false → Exact kind h ys w null → Exact kind (choice kind may first g h) (xs ++ ys) (v ++ (w ++ cond null first [])) null
choose first true s d x y = or first s d x y
choose {kind = kind} {h = h} {xs = xs} {ys = ys} {v = v} {w = w} {null = null} first false s d x y = padded xs v (longer y)
  where
    longer : Exact kind h ys w null → Exact kind h ys (w ++ cond null first []) null
    longer z =
        record {
          sound = z.sound;
          again = λ ts a rest p n. z.again ts a rest p (begins-left kind w (cond null first []) rest n);
          heads = z.heads;
          moves = λ ts a rest e.
              let m = z.moves ts a rest e in
              record {
                front = m.front;
                split = m.split;
                starts = m.starts;
                again = λ other fits. m.again other (fits_part kind w (w ++ cond null first []) rest other (begins-left kind w (cond null first []) other) fits);
              };
          stuck = z.stuck;
          lives = z.lives;
        }
