-- What follows from an exact grammar: one answer for a whole list, and its reader finds it.
use Rattle.std.proofs.Common.{◌≡◌, inl, inr, ℕ, zero, suc, ◌<◌, Bool, true, false, List, [], ◌∷◌, ◌++◌, length, refl, sym, ◌∙◌, ap, subst, Result, Ok, Err, arith}
use Rattle.std.proofs.lemmas.List.{append-nil, append_assoc, length-append}
use Rattle.cs_grammar.specs.Grammar.{Read, Grammar}
use Rattle.cs_grammar.specs.Exact.{Exact}
use Rattle.cs_grammar.specs.Whole.{Viable, Blocked, Passes, Depth, IsFault, Answers, at_end, whole, left_of, Deeper}
use Rattle.cs_grammar.proofs.Basics.{ok, ok_value, ok_rest, not_both}

-- two ways to cut one list

cut_long : {T : Type 0} (us vs l m : List T) (next : T) → us ++ (next ∷ l) ≡ vs ++ m → length m < suc (length l) → (extra : List T) × (vs ≡ (us ++ next ∷ []) ++ extra)
cut_long [] [] l m next e lt =
    let same : suc (length l) ≡ length m = ap length e in
    absurd (omega arith)
cut_long [] (v ∷ vs) l m next e lt = (vs, let same : next ≡ v = cc in ap (λ t. t ∷ vs) (sym same))
cut_long (u ∷ us) [] l m next e lt =
    let same : suc (length (us ++ (next ∷ l))) ≡ length m = ap length e in
    absurd (omega (arith, length-append us (next ∷ l)))
cut_long (u ∷ us) (v ∷ vs) l m next e lt =
    let head : u ≡ v = cc in
    let tail : us ++ (next ∷ l) ≡ vs ++ m = cc in
    let more = cut_long us vs l m next tail lt in
    (more.0, ap (λ t. t ∷ vs) (sym head) ∙ ap (λ ts. u ∷ ts) more.1)

cut_same : {T : Type 0} (us vs l m : List T) → us ++ l ≡ vs ++ m → length l ≡ length m → (us ≡ vs) × (l ≡ m)
cut_same [] [] l m e n = (refl, e)
cut_same [] (v ∷ vs) l m e n =
    let same : length l ≡ suc (length (vs ++ m)) = ap length e in
    absurd (omega (arith, length-append vs m))
cut_same (u ∷ us) [] l m e n =
    let same : suc (length (us ++ l)) ≡ length m = ap length e in
    absurd (omega (arith, length-append us l))
cut_same (u ∷ us) (v ∷ vs) l m e n =
    let tail : us ++ l ≡ vs ++ m = cc in
    let more = cut_same us vs l m tail n in
    let head : u ≡ v = cc in
    (ap (λ t. t ∷ us) head ∙ ap (λ ts. v ∷ ts) more.0, more.1)

-- what a value's front tells of the token behind it

no_end : {T A : Type 0} (a b : A) (next : T) (rest : List T) (r : Read T A) → r ≡ Ok (a, next ∷ rest) → r ≡ Ok (b, []) → ⊥
no_end a b next rest r e h = let same : ok (a, next ∷ rest) ≡ ok (b, []) = sym e ∙ h in (let rests = ok_rest (a, next ∷ rest) (b, []) same in absurd (cc))

one_more : {T : Type 0} (us : List T) (next : T) (more : List T) → (us ++ next ∷ []) ++ more ≡ us ++ (next ∷ more)
one_more us next more = append_assoc us (next ∷ []) more

reads_on : {T A : Type 0} {kind : T → ℕ} {g : Grammar T A} {xs v : List ℕ} {n : Bool} (us : List T) (next : T) (w : Viable g (us ++ next ∷ [])) → Exact kind g xs v n → g.reads (us ++ (next ∷ w.0)) ≡ Ok (w.1, [])
reads_on {g = g} us next w x = ap (λ ts. g.reads ts) (sym (one_more us next w.0)) ∙ x.again ((us ++ next ∷ []) ++ w.0) w.1 [] w.2 refl

behind_value : {T A : Type 0} {kind : T → ℕ} {g : Grammar T A} {xs v : List ℕ} {n : Bool} (ts front : List T) (a : A) (next : T) (rest : List T) → Exact kind g xs v n → g.reads ts ≡ Ok (a, next ∷ rest) → ts ≡ front ++ (next ∷ rest) → Blocked g front (next ∷ rest)
behind_value {kind = kind} {g = g} ts front a next rest x e split w =
    let m = x.moves ts a (next ∷ rest) e in
    let at : m.front ≡ front = (cut_same m.front front (next ∷ rest) (next ∷ rest) (sym m.split ∙ split) refl).0 in
    no_end a w.1 next w.0 (g.reads (front ++ (next ∷ w.0))) (subst (λ us. g.reads (us ++ (next ∷ w.0)) ≡ Ok (a, next ∷ w.0)) at (m.again (next ∷ w.0) (inr refl))) (reads_on front next w x)

at_fault : {T A : Type 0} {kind : T → ℕ} {g : Grammar T A} {xs v : List ℕ} {n : Bool} (ts front : List T) (deep : Bool) (left : List T) → Exact kind g xs v n → g.reads ts ≡ Err (deep, left) → ts ≡ front ++ left → Blocked g front left
at_fault {kind = kind} {g = g} ts front deep [] x e split =
    let k = x.stuck ts deep [] e in
    let at : k.front ≡ front = (cut_same k.front front [] [] (sym k.split ∙ split) refl).0 in
    λ a d.
    not_both (a, []) (deep, [])
    (sym (x.again front a [] d refl) ∙ (ap (λ us. g.reads us) (sym (append-nil front)) ∙ subst (λ us. g.reads (us ++ []) ≡ Err (deep, [])) at (k.same [] tt)))
at_fault {kind = kind} {g = g} ts front deep (next ∷ rest) x e split =
    let k = x.stuck ts deep (next ∷ rest) e in
    let at : k.front ≡ front = (cut_same k.front front (next ∷ rest) (next ∷ rest) (sym k.split ∙ split) refl).0 in
    λ w. not_both (w.1, []) (deep, next ∷ w.0) (sym (reads_on front next w x) ∙ subst (λ us. g.reads (us ++ (next ∷ w.0)) ≡ Err (deep, next ∷ w.0)) at (k.same (next ∷ w.0) refl))

-- where the wide one gets further

extended : {T A : Type 0} {kind : T → ℕ} {g : Grammar T A} {xs v : List ℕ} {n : Bool} (front extra vs more : List T) (next : T) (a : A) → Exact kind g xs v n → vs ≡ (front ++ next ∷ []) ++ extra → g.reads (vs ++ more) ≡ Ok (a, []) → Viable g (front ++ next ∷ [])
extended {g = g} front extra vs more next a x e h =
    (extra ++ more, a, subst (λ ts. g.derives ts a []) (ap (λ us. us ++ more) e ∙ append_assoc (front ++ next ∷ []) extra more) (x.sound (vs ++ more) a [] h))

gets_further : {T A : Type 0} {kind : T → ℕ} {g : Grammar T A} {xs v : List ℕ} {n : Bool} (ts front left : List T) (r : Read T A) → Exact kind g xs v n → ts ≡ front ++ left → g.reads ts ≡ r → left_of r < length left → Passes g front left
gets_further ts front [] r x split e lt = absurd (omega arith)
gets_further {g = g} ts front (next ∷ rest) (Ok p) x split e lt =
    let m = x.moves ts p.0 p.1 e in
    let c = cut_long front m.front rest p.1 next (sym split ∙ m.split) lt in
    extended front c.0 m.front [] next p.0 x c.1 (m.again [] (inl refl))
gets_further {g = g} ts front (next ∷ rest) (Err p) x split e lt =
    let k = x.stuck ts p.0 p.1 e in
    let c = cut_long front k.front rest p.1 next (sym split ∙ k.split) lt in
    extended front c.0 k.front k.onward next k.value x c.1 k.whole

-- the reader's answer is one

pub whole_answers : {T A : Type 0} {kind : T → ℕ} {g wide : Grammar T A} {xs ys v w : List ℕ} {m n : Bool} → Exact kind g xs v m → Exact kind wide ys w n → Deeper g wide → (ts : List T) → Answers g wide ts (whole (g.reads ts))
whole_answers {T = T} {A = A} {g = g} {wide = wide} x y d ts = by_case (g.reads ts) refl
  where
    fault : (deep : Bool) (left : List T) → g.reads ts ≡ Err (deep, left) → IsFault g wide ts deep left
    fault deep left e =
        let k = x.stuck ts deep left e in
        record {
          front = k.front;
          split = k.split;
          goes_on = (k.onward, k.value, x.sound (k.front ++ k.onward) k.value [] k.whole);
          blocked = at_fault ts k.front deep left x e k.split;
          depth = depth deep k.front k.split e;
        }
      where
        depth : (deep : Bool) (front : List T) → ts ≡ front ++ left → g.reads ts ≡ Err (deep, left) → Depth wide front left deep
        depth true front split e = gets_further ts front left (wide.reads ts) y split refl (d.deep ts left e)
        depth false front split e = at_fault ts front false left y (d.parse ts left e) split

    by_case : (r : Read T A) → g.reads ts ≡ r → Answers g wide ts (whole r)
    by_case (Ok p) e = at_rest p.1 e
      where
        at_rest : (rest : List T) → g.reads ts ≡ Ok (p.0, rest) → Answers g wide ts (at_end p.0 rest)
        at_rest [] e = x.sound ts p.0 [] e
        at_rest (next ∷ rest) e =
            let k = x.moves ts p.0 (next ∷ rest) e in
            record {
              front = k.front;
              split = k.split;
              goes_on = ([], p.0, x.sound (k.front ++ []) p.0 [] (k.again [] (inl refl)));
              blocked = behind_value ts k.front p.0 next rest x e k.split;
              depth = behind_value ts k.front p.0 next rest y (d.same ts p.0 (next ∷ rest) e) k.split;
            }
    by_case (Err p) e = fault p.0 p.1 e

-- there is one answer

value_or_fault : {T A : Type 0} (g wide : Grammar T A) (ts : List T) (a : A) (deep : Bool) (left : List T) → g.derives ts a [] → IsFault g wide ts deep left → ⊥
value_or_fault g wide ts a deep [] d f = f.blocked a (subst (λ us. g.derives us a []) (f.split ∙ append-nil f.front) d)
value_or_fault g wide ts a deep (next ∷ rest) d f =
    f.blocked (rest, a, subst (λ us. g.derives us a []) (f.split ∙ sym (one_more f.front next rest)) d)

later_fault : {T A : Type 0} (g : Grammar T A) (us vs l m : List T) → us ++ l ≡ vs ++ m → length m < length l → Blocked g us l → Viable g vs → ⊥
later_fault g us vs [] m e lt b w = absurd (omega arith)
later_fault g us vs (next ∷ l) m e lt b w =
    let c = cut_long us vs l m next e lt in
    b (c.0 ++ w.0, w.1, subst (λ ts. g.derives ts w.1 []) (ap (λ ts. ts ++ w.0) c.1 ∙ append_assoc (us ++ next ∷ []) c.0 w.0) w.2)

depth_not : {T A : Type 0} (wide : Grammar T A) (ts left : List T) → Passes wide ts left → Blocked wide ts left → ⊥
depth_not wide ts [] p b = p
depth_not wide ts (next ∷ rest) p b = b p

one_depth : {T A : Type 0} (wide : Grammar T A) (ts left : List T) (d e : Bool) → Depth wide ts left d → Depth wide ts left e → d ≡ e
one_depth wide ts left true true p q = refl
one_depth wide ts left true false p q = absurd (depth_not wide ts left p q)
one_depth wide ts left false true p q = absurd (depth_not wide ts left q p)
one_depth wide ts left false false p q = refl

data Order (i j : ℕ) : Type 0 where
  less : i < j → Order i j
  same : i ≡ j → Order i j
  more : j < i → Order i j

tell : (i j : ℕ) → Order i j
tell zero zero = same refl
tell zero (suc j) = less (omega arith)
tell (suc i) zero = more (omega arith)
tell (suc i) (suc j) = elim (tell i j) [ less p ↦ less (omega arith) | same p ↦ same (omega arith) | more p ↦ more (omega arith) ]

one_fault : {T A : Type 0} (g wide : Grammar T A) (ts : List T) (d e : Bool) (l m : List T) → IsFault g wide ts d l → IsFault g wide ts e m → (d ≡ e) × (l ≡ m)
one_fault {T = T} g wide ts d e l m f h = by_length (tell (length l) (length m))
  where
    by_length : Order (length l) (length m) → (d ≡ e) × (l ≡ m)
    by_length (less p) = absurd (later_fault g h.front f.front m l (sym h.split ∙ f.split) p h.blocked f.goes_on)
    by_length (more p) = absurd (later_fault g f.front h.front l m (sym f.split ∙ h.split) p f.blocked h.goes_on)
    by_length (same p) =
        let c = cut_same f.front h.front l m (sym f.split ∙ h.split) p in
        let deep : Depth wide f.front l e = subst (λ us. Depth wide us l e) (sym c.0) (subst (λ r. Depth wide h.front r e) (sym c.1) h.depth) in
        (one_depth wide f.front l d e f.depth deep, c.1)

pub one_answer : {T A : Type 0} {kind : T → ℕ} {g : Grammar T A} {xs v : List ℕ} {n : Bool} (wide : Grammar T A) → Exact kind g xs v n → (ts : List T) (r s : Result A (Bool × List T)) → Answers g wide ts r → Answers g wide ts s → r ≡ s
one_answer {g = g} wide x ts (Ok a) (Ok b) p q = ap (λ c. Ok c) (ok_value (a, []) (b, []) (sym (x.again ts a [] p refl) ∙ x.again ts b [] q refl))
one_answer {g = g} wide x ts (Ok a) (Err e) p q = absurd (value_or_fault g wide ts a e.0 e.1 p q)
one_answer {g = g} wide x ts (Err e) (Ok a) p q = absurd (value_or_fault g wide ts a e.0 e.1 q p)
one_answer {T = T} {A = A} {g = g} wide x ts (Err e) (Err h) p q =
    let same = one_fault g wide ts e.0 h.0 e.1 h.1 p q in
    pair e.0 h.0 e.1 h.1 same.0 same.1
  where
    fail : Bool × List T → Result A (Bool × List T)
    fail p = Err p

    pair : (a b : Bool) (l m : List T) → a ≡ b → l ≡ m → fail (a, l) ≡ fail (b, m)
    pair a b l m e h = cc
