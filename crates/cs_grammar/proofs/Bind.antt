-- One behind the other.
use Rattle.std.proofs.Common.{◌≡◌, ◌⊎◌, inl, inr, ℕ, Bool, true, false, cond, ◌&&◌, List, [], ◌∷◌, ◌++◌, refl, sym, ◌∙◌, ap, subst, Ok, Err}
use Rattle.std.proofs.lemmas.List.{append-nil, append_assoc}
use Rattle.cs_grammar.specs.Kinds.{has, begins, disjoint}
use Rattle.cs_grammar.specs.Grammar.{Read, Grammar, and_then, bind}
use Rattle.cs_grammar.specs.Exact.{Starts, Alike, Fits, Taken, Moved, Stuck, Lives, Exact}
use Rattle.cs_grammar.proofs.Sets.{has-left, has-right, disjoint-lacks_back, begins-left, begins-right, alike_behind}
use Rattle.cs_grammar.proofs.Basics.{err, not_both}

pub and_then-ok : {T A B : Type 0} (r : Read T A) (a : A) (mid : List T) (k : A → List T → Read T B) → r ≡ Ok (a, mid) → and_then r k ≡ k a mid
and_then-ok r a mid k e = ap (λ s. and_then s k) e

pub and_then-err : {T A B : Type 0} (r : Read T A) (deep : Bool) (left : List T) (k : A → List T → Read T B) → r ≡ Err (deep, left) → and_then r k ≡ Err (deep, left)
and_then-err r deep left k e = ap (λ s. and_then s k) e

-- what a sequence read
pub record Both {T A B : Type 0} (r : Read T A) (k : A → List T → Read T B) (b : B) (rest : List T) : Type 0 where
  pub value : A
  pub mid : List T
  pub one : r ≡ Ok (value, mid)
  pub other : k value mid ≡ Ok (b, rest)

pub both_of : {T A B : Type 0} (r : Read T A) (k : A → List T → Read T B) (b : B) (rest : List T) → and_then r k ≡ Ok (b, rest) → Both r k b rest
both_of (Ok p) k b rest e = record { value = p.0; mid = p.1; one = refl; other = e }
both_of (Err p) k b rest e = absurd (not_both (b, rest) p (sym e))

-- where a sequence fails: in the one, or in the other
pub record InSecond {T A B : Type 0} (r : Read T A) (k : A → List T → Read T B) (deep : Bool) (left : List T) : Type 0 where
  pub value : A
  pub mid : List T
  pub one : r ≡ Ok (value, mid)
  pub other : k value mid ≡ Err (deep, left)

pub fails_in : {T A B : Type 0} (r : Read T A) (k : A → List T → Read T B) (deep : Bool) (left : List T) → and_then r k ≡ Err (deep, left) → (r ≡ Err (deep, left)) ⊎ InSecond r k deep left
fails_in (Ok p) k deep left e = inr (record { value = p.0; mid = p.1; one = refl; other = e })
fails_in {T = T} {A = A} {B = B} (Err p) k deep left e = inl (again p (deep, left) e)
  where
    again : (p q : Bool × List T) → err {A = B} p ≡ err q → err {A = A} p ≡ err q
    again p q e = let same : p ≡ q = cc in ap (λ s. err s) same

-- behind a value may stand what begins a next one, or, where that has no tokens, what stands behind it
pub behind_fits : {T : Type 0} (kind : T → ℕ) (xs ys firsts : List ℕ) (null : Bool) (us rest : List T) → disjoint xs firsts ≡ true → Starts kind firsts null us → begins kind (ys ++ cond null xs []) rest ≡ false → begins kind xs (us ++ rest) ≡ false
behind_fits kind xs ys firsts null [] rest d s n = subst (λ b. begins kind (cond b xs []) rest ≡ false) s (begins-right kind ys (cond null xs []) rest n)
behind_fits kind xs ys firsts null (u ∷ us) rest d s n = disjoint-lacks_back xs firsts (kind u) d s

-- the same before other tokens
pub before_fits : {T : Type 0} (kind : T → ℕ) (xs ys firsts : List ℕ) (null : Bool) (us rest other : List T) → disjoint xs firsts ≡ true → Starts kind firsts null us → Fits kind (ys ++ cond null xs []) rest other → Fits kind xs (us ++ rest) (us ++ other)
before_fits kind xs ys firsts null us rest other d s (inl n) = inl (behind_fits kind xs ys firsts null us other d s n)
before_fits kind xs ys firsts null us rest other d s (inr h) = inr (alike_behind kind us rest other h)

pub fits_left : {T : Type 0} (kind : T → ℕ) (xs ys : List ℕ) (rest other : List T) → Fits kind (xs ++ ys) rest other → Fits kind xs rest other
fits_left kind xs ys rest other (inl n) = inl (begins-left kind xs ys other n)
fits_left kind xs ys rest other (inr h) = inr h

-- the tokens of both begin as the first do, or, where the first has none, as the second
pub starts_both : {T : Type 0} (kind : T → ℕ) (xs ys : List ℕ) (m n : Bool) (us vs : List T) → Starts kind xs m us → Starts kind ys n vs → Starts kind (xs ++ cond m ys []) (m && n) (us ++ vs)
starts_both kind xs ys m n [] [] s t = rw s t
starts_both kind xs ys m n [] (v ∷ vs) s t = has-right xs (cond m ys []) (kind v) (subst (λ b. has (cond b ys []) (kind v) ≡ true) (sym s) t)
starts_both kind xs ys m n (u ∷ us) vs s t = has-left xs (cond m ys []) (kind u) s

joined : {T : Type 0} (ts us mid vs rest : List T) → ts ≡ us ++ mid → mid ≡ vs ++ rest → ts ≡ (us ++ vs) ++ rest
joined ts us mid vs rest p q = p ∙ (ap (λ m. us ++ m) q ∙ sym (append_assoc us vs rest))

then_heads : {T : Type 0} (kind : T → ℕ) (xs ys : List ℕ) (m n : Bool) (ts mid rest : List T) → Taken kind xs m ts mid → Taken kind ys n mid rest → Taken kind (xs ++ cond m ys []) (m && n) ts rest
then_heads kind xs ys m n ts mid rest h k =
    record {
      front = h.front ++ k.front;
      split = joined ts h.front mid k.front rest h.split k.split;
      starts = starts_both kind xs ys m n h.front k.front h.starts k.starts;
    }

pub then : {T A B : Type 0} {kind : T → ℕ} {g : Grammar T A} {f : A → Grammar T B} {xs ys v w : List ℕ} {m n : Bool} → Exact kind g xs v m → disjoint v ys ≡ true → ((a : A) → Exact kind (f a) ys w n) → Exact kind (bind g f) (xs ++ cond m ys []) (w ++ cond n v []) (m && n)
then {T = T} {A = A} {B = B} {kind = kind} {g = g} {f = f} {xs = xs} {ys = ys} {v = v} {w = w} {m = m} {n = n} x d y =
    record {
      sound = λ ts b rest e.
          let p = both_of (g.reads ts) next b rest e in
          (p.value, p.mid, x.sound ts p.value p.mid p.one, (y p.value).sound p.mid b rest p.other);
      again = again;
      heads = λ ts b rest p. then_heads kind xs ys m n ts p.1 rest (x.heads ts p.0 p.1 p.2) ((y p.0).heads p.1 b rest p.3);
      moves = moves;
      stuck = λ ts deep left e. elim (fails_in (g.reads ts) next deep left e) [ inl h ↦ in_first ts deep left h | inr p ↦ in_second ts deep left p ];
      lives = lives;
    }
  where
    next : A → List T → Read T B
    next a mid = (f a).reads mid

    again : (ts : List T) (b : B) (rest : List T) → (bind g f).derives ts b rest → begins kind (w ++ cond n v []) rest ≡ false → (bind g f).reads ts ≡ Ok (b, rest)
    again ts b rest p e =
        let k = (y p.0).heads p.1 b rest p.3 in
        let free : begins kind v p.1 ≡ false = subst (λ us. begins kind v us ≡ false) (sym k.split) (behind_fits kind v w ys n k.front rest d k.starts e) in
        and_then-ok (g.reads ts) p.0 p.1 next (x.again ts p.0 p.1 p.2 free) ∙ (y p.0).again p.1 b rest p.3 (begins-left kind w (cond n v []) rest e)

    moves : (ts : List T) (b : B) (rest : List T) → (bind g f).reads ts ≡ Ok (b, rest) → Moved kind (bind g f) (xs ++ cond m ys []) (w ++ cond n v []) (m && n) ts b rest
    moves ts b rest e =
        let p = both_of (g.reads ts) next b rest e in
        let h = x.moves ts p.value p.mid p.one in
        let k = (y p.value).moves p.mid b rest p.other in
        record {
          front = h.front ++ k.front;
          split = joined ts h.front p.mid k.front rest h.split k.split;
          starts = starts_both kind xs ys m n h.front k.front h.starts k.starts;
          again = λ other fits.
              let first : g.reads (h.front ++ (k.front ++ other)) ≡ Ok (p.value, k.front ++ other) =
              h.again (k.front ++ other) (subst (λ us. Fits kind v us (k.front ++ other)) (sym k.split) (before_fits kind v w ys n k.front rest other d k.starts fits))
              in
              ap (λ us. (bind g f).reads us) (append_assoc h.front k.front other)
              ∙ (and_then-ok (g.reads (h.front ++ (k.front ++ other))) p.value (k.front ++ other) next first
              ∙ k.again other (fits_left kind w (cond n v []) rest other fits));
        }

    -- what was read to its end goes on with what the next one reads to its end
    followed : (us : List T) (a : A) (vs : List T) (b : B) → g.reads us ≡ Ok (a, []) → (f a).reads vs ≡ Ok (b, []) → (bind g f).reads (us ++ vs) ≡ Ok (b, [])
    followed us a vs b p q =
        let h = x.moves us a [] p in
        let k = (y a).moves vs b [] q in
        let whole : us ≡ h.front = h.split ∙ append-nil h.front in
        let free : begins kind v vs ≡ false = subst (λ ts. begins kind v ts ≡ false) (sym k.split) (ends k.front k.starts) in
        ap (λ ts. (bind g f).reads (ts ++ vs)) whole ∙ (and_then-ok (g.reads (h.front ++ vs)) a vs next (h.again vs (inl free)) ∙ q)
      where
        ends : (ts : List T) → Starts kind ys n ts → begins kind v (ts ++ []) ≡ false
        ends [] s = refl
        ends (t ∷ ts) s = disjoint-lacks_back v ys (kind t) d s

    lives : Lives (bind g f)
    lives =
        let p = x.lives in
        let q = (y p.value).lives in
        record { text = p.text ++ q.text; value = q.value; whole = followed p.text p.value q.text q.value p.whole q.whole }

    in_first : (ts : List T) (deep : Bool) (left : List T) → g.reads ts ≡ Err (deep, left) → Stuck kind (bind g f) ts deep left
    in_first ts deep left e =
        let s = x.stuck ts deep left e in
        let q = (y s.value).lives in
        record {
          front = s.front;
          split = s.split;
          same = λ other h. and_then-err (g.reads (s.front ++ other)) deep other next (s.same other h);
          onward = s.onward ++ q.text;
          value = q.value;
          whole = ap (λ us. (bind g f).reads us) (sym (append_assoc s.front s.onward q.text)) ∙ followed (s.front ++ s.onward) s.value q.text q.value s.whole q.whole;
        }

    in_second : (ts : List T) (deep : Bool) (left : List T) → InSecond (g.reads ts) next deep left → Stuck kind (bind g f) ts deep left
    in_second ts deep left p =
        let h = x.moves ts p.value p.mid p.one in
        let s = (y p.value).stuck p.mid deep left p.other in
        record {
          front = h.front ++ s.front;
          split = joined ts h.front p.mid s.front left h.split s.split;
          same = λ other alike.
              let first : g.reads (h.front ++ (s.front ++ other)) ≡ Ok (p.value, s.front ++ other) =
              h.again (s.front ++ other) (inr (subst (λ us. Alike kind us (s.front ++ other)) (sym s.split) (alike_behind kind s.front left other alike)))
              in
              ap (λ us. (bind g f).reads us) (append_assoc h.front s.front other)
              ∙ (and_then-ok (g.reads (h.front ++ (s.front ++ other))) p.value (s.front ++ other) next first ∙ s.same other alike);
          onward = s.onward;
          value = s.value;
          whole =
              let first : g.reads (h.front ++ (s.front ++ s.onward)) ≡ Ok (p.value, s.front ++ s.onward) =
              h.again (s.front ++ s.onward) (subst (λ us. Fits kind v us (s.front ++ s.onward)) (sym s.split) (onward s.front left s.onward s.value s.whole))
              in
              ap (λ us. (bind g f).reads us) (append_assoc h.front s.front s.onward)
              ∙ (and_then-ok (g.reads (h.front ++ (s.front ++ s.onward))) p.value (s.front ++ s.onward) next first ∙ s.whole);
        }
      where
        starting : (us : List T) → Starts kind ys n us → begins kind v (us ++ []) ≡ false
        starting [] s = refl
        starting (u ∷ us) s = disjoint-lacks_back v ys (kind u) d s

        onward : (us left vs : List T) (b : B) → (f p.value).reads (us ++ vs) ≡ Ok (b, []) → Fits kind v (us ++ left) (us ++ vs)
        onward [] left vs b e =
            let k = (y p.value).moves vs b [] e in
            inl (subst (λ ts. begins kind v ts ≡ false) (sym k.split) (starting k.front k.starts))
        onward (u ∷ us) left vs b e = inr refl
