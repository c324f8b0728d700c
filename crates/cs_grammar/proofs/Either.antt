-- One or the other.
use Rattle.std.proofs.Common.{◌≡◌, ◌⊎◌, inl, inr, ℕ, Bool, true, false, cond, List, [], ◌∷◌, ◌++◌, refl, sym, ◌∙◌, ap, subst, Ok, Err}
use Rattle.cs_grammar.specs.Kinds.{begins, disjoint, subset}
use Rattle.cs_grammar.specs.Grammar.{Grammar, either}
use Rattle.cs_grammar.specs.Exact.{Starts, Alike, Fits, Taken, Moved, Stuck, Exact}
use Rattle.cs_grammar.proofs.Sets.{has-left, has-right, disjoint-lacks_back, subset-has, begins-left, begins-right, begins-alike, alike_behind}

picks : {T A : Type 0} (kind : T → ℕ) (first : List ℕ) (g h : Grammar T A) (ts : List T) (b : Bool) → begins kind first ts ≡ b → (either kind first g h).reads ts ≡ cond b (g.reads ts) (h.reads ts)
picks kind first g h ts b e = ap (λ c. cond c (g.reads ts) (h.reads ts)) e

-- a value with tokens begins as its kinds say, whatever stands behind it
pub front_begins : {T : Type 0} (kind : T → ℕ) (xs first : List ℕ) (ts rest : List T) → subset xs first ≡ true → Taken kind xs false ts rest → begins kind first ts ≡ true
front_begins {T = T} kind xs first ts rest s h = subst (λ us. begins kind first us ≡ true) (sym h.split) (of h.front h.starts)
  where
    of : (us : List T) → Starts kind xs false us → begins kind first (us ++ rest) ≡ true
    of [] e = cc
    of (u ∷ us) e = subset-has xs first (kind u) s e

-- a value of the other kind, or none with something else behind it, doesn't
pub front_begins_not : {T : Type 0} (kind : T → ℕ) (ys first : List ℕ) (null : Bool) (us rest : List T) → disjoint first ys ≡ true → Starts kind ys null us → begins kind (cond null first []) rest ≡ false → begins kind first (us ++ rest) ≡ false
front_begins_not kind ys first null [] rest d s e = subst (λ b. begins kind (cond b first []) rest ≡ false) s e
front_begins_not kind ys first null (u ∷ us) rest d s e = disjoint-lacks_back first ys (kind u) d s

-- where something stands in the front, or what follows is alike, the next token is of one kind
pub begins_same : {T : Type 0} (kind : T → ℕ) (first : List ℕ) (us rest other : List T) → Alike kind rest other → begins kind first (us ++ other) ≡ begins kind first (us ++ rest)
begins_same kind first us rest other h = begins-alike kind first (us ++ rest) (us ++ other) (alike_behind kind us rest other h)

starts_first : {T : Type 0} (kind : T → ℕ) (xs ys : List ℕ) (null : Bool) (us : List T) → Starts kind xs false us → Starts kind (xs ++ ys) null us
starts_first kind xs ys null [] s = cc
starts_first kind xs ys null (u ∷ us) s = has-left xs ys (kind u) s

starts_second : {T : Type 0} (kind : T → ℕ) (xs ys : List ℕ) (null : Bool) (us : List T) → Starts kind ys null us → Starts kind (xs ++ ys) null us
starts_second kind xs ys null [] s = s
starts_second kind xs ys null (u ∷ us) s = has-right xs ys (kind u) s

pub fits_part : {T : Type 0} (kind : T → ℕ) (xs ys : List ℕ) (rest other : List T) → ((begins kind ys other ≡ false) → begins kind xs other ≡ false) → Fits kind ys rest other → Fits kind xs rest other
fits_part kind xs ys rest other f (inl e) = inl (f e)
fits_part kind xs ys rest other f (inr h) = inr h

-- the kinds that may not follow one or the other
abbrev pub either_follow : List ℕ → List ℕ → List ℕ → Bool → List ℕ
either_follow v w first null = v ++ (w ++ cond null first [])

pub or : {T A : Type 0} {kind : T → ℕ} {g h : Grammar T A} {xs ys v w : List ℕ} {null : Bool} (first : List ℕ) → subset xs first ≡ true → disjoint first ys ≡ true → Exact kind g xs v false → Exact kind h ys w null → Exact kind (either kind first g h) (xs ++ ys) (v ++ (w ++ cond null first [])) null
or {T = T} {A = A} {kind = kind} {g = g} {h = h} {xs = xs} {ys = ys} {v = v} {w = w} {null = null} first s d x y =
    record {
      sound = λ ts a rest e. sound_at ts a rest (begins kind first ts) refl e;
      again = again;
      heads = heads;
      moves = λ ts a rest e. moves_at ts a rest (begins kind first ts) refl e;
      stuck = λ ts deep left e. stuck_at ts deep left (begins kind first ts) refl e;
      lives =
          let p = x.lives in
          let m = x.moves p.text p.value [] p.whole in
          let b : begins kind first p.text ≡ true = front_begins kind xs first p.text [] s (record { front = m.front; split = m.split; starts = m.starts }) in
          record { text = p.text; value = p.value; whole = picks kind first g h p.text true b ∙ p.whole };
    }
  where
    sound_at : (ts : List T) (a : A) (rest : List T) (b : Bool) → begins kind first ts ≡ b → (either kind first g h).reads ts ≡ Ok (a, rest) → g.derives ts a rest ⊎ h.derives ts a rest
    sound_at ts a rest true is e = inl (x.sound ts a rest (sym (picks kind first g h ts true is) ∙ e))
    sound_at ts a rest false is e = inr (y.sound ts a rest (sym (picks kind first g h ts false is) ∙ e))

    again : (ts : List T) (a : A) (rest : List T) → g.derives ts a rest ⊎ h.derives ts a rest → begins kind (v ++ (w ++ cond null first [])) rest ≡ false → (either kind first g h).reads ts ≡ Ok (a, rest)
    again ts a rest (inl p) e =
        picks kind first g h ts true (front_begins kind xs first ts rest s (x.heads ts a rest p))
        ∙ x.again ts a rest p (begins-left kind v (w ++ cond null first []) rest e)
    again ts a rest (inr p) e =
        let k = y.heads ts a rest p in
        let behind = begins-right kind v (w ++ cond null first []) rest e in
        let free : begins kind first ts ≡ false =
        subst (λ us. begins kind first us ≡ false) (sym k.split) (front_begins_not kind ys first null k.front rest d k.starts (begins-right kind w (cond null first []) rest behind))
        in
        picks kind first g h ts false free ∙ y.again ts a rest p (begins-left kind w (cond null first []) rest behind)

    heads : (ts : List T) (a : A) (rest : List T) → g.derives ts a rest ⊎ h.derives ts a rest → Taken kind (xs ++ ys) null ts rest
    heads ts a rest (inl p) =
        let k = x.heads ts a rest p in
        record { front = k.front; split = k.split; starts = starts_first kind xs ys null k.front k.starts }
    heads ts a rest (inr p) =
        let k = y.heads ts a rest p in
        record { front = k.front; split = k.split; starts = starts_second kind xs ys null k.front k.starts }

    -- the second's tokens, before what may follow, don't begin as the first do
    still_second : (us rest other : List T) → begins kind first (us ++ rest) ≡ false → Starts kind ys null us → Fits kind (v ++ (w ++ cond null first [])) rest other → begins kind first (us ++ other) ≡ false
    still_second us rest other n k (inl e) =
        front_begins_not kind ys first null us other d k (begins-right kind w (cond null first []) other (begins-right kind v (w ++ cond null first []) other e))
    still_second us rest other n k (inr e) = begins_same kind first us rest other e ∙ n

    moves_at : (ts : List T) (a : A) (rest : List T) (b : Bool) → begins kind first ts ≡ b → (either kind first g h).reads ts ≡ Ok (a, rest) → Moved kind (either kind first g h) (xs ++ ys) (v ++ (w ++ cond null first [])) null ts a rest
    moves_at ts a rest true is e =
        let m = x.moves ts a rest (sym (picks kind first g h ts true is) ∙ e) in
        record {
          front = m.front;
          split = m.split;
          starts = starts_first kind xs ys null m.front m.starts;
          again = λ other fits.
              picks kind first g h (m.front ++ other) true (front_begins kind xs first (m.front ++ other) other s (record { front = m.front; split = refl; starts = m.starts }))
              ∙ m.again other (fits_part kind v (v ++ (w ++ cond null first [])) rest other (begins-left kind v (w ++ cond null first []) other) fits);
        }
    moves_at ts a rest false is e =
        let m = y.moves ts a rest (sym (picks kind first g h ts false is) ∙ e) in
        record {
          front = m.front;
          split = m.split;
          starts = starts_second kind xs ys null m.front m.starts;
          again = λ other fits.
              picks kind first g h (m.front ++ other) false (still_second m.front rest other (subst (λ us. begins kind first us ≡ false) m.split is) m.starts fits)
              ∙ m.again other (fits_part kind w (v ++ (w ++ cond null first [])) rest other (λ n. begins-left kind w (cond null first []) other (begins-right kind v (w ++ cond null first []) other n)) fits);
        }

    -- what the first reads from its front on
    whole_first : (us : List T) (a : A) → g.reads us ≡ Ok (a, []) → (either kind first g h).reads us ≡ Ok (a, [])
    whole_first us a e =
        let m = x.moves us a [] e in
        picks kind first g h us true (front_begins kind xs first us [] s (record { front = m.front; split = m.split; starts = m.starts })) ∙ e

    whole_second : (us : List T) (a : A) → h.reads us ≡ Ok (a, []) → (either kind first g h).reads us ≡ Ok (a, [])
    whole_second us a e =
        let m = y.moves us a [] e in
        picks kind first g h us false (subst (λ ts. begins kind first ts ≡ false) (sym m.split) (front_begins_not kind ys first null m.front [] d m.starts refl)) ∙ e

    stuck_at : (ts : List T) (deep : Bool) (left : List T) (b : Bool) → begins kind first ts ≡ b → (either kind first g h).reads ts ≡ Err (deep, left) → Stuck kind (either kind first g h) ts deep left
    stuck_at ts deep left true is e =
        let k = x.stuck ts deep left (sym (picks kind first g h ts true is) ∙ e) in
        record {
          front = k.front;
          split = k.split;
          same = λ other alike.
              picks kind first g h (k.front ++ other) true (begins_same kind first k.front left other alike ∙ subst (λ us. begins kind first us ≡ true) k.split is)
              ∙ k.same other alike;
          onward = k.onward;
          value = k.value;
          whole = whole_first (k.front ++ k.onward) k.value k.whole;
        }
    stuck_at ts deep left false is e =
        let k = y.stuck ts deep left (sym (picks kind first g h ts false is) ∙ e) in
        record {
          front = k.front;
          split = k.split;
          same = λ other alike.
              picks kind first g h (k.front ++ other) false (begins_same kind first k.front left other alike ∙ subst (λ us. begins kind first us ≡ false) k.split is)
              ∙ k.same other alike;
          onward = k.onward;
          value = k.value;
          whole = whole_second (k.front ++ k.onward) k.value k.whole;
        }
