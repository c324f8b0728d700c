-- More levels read no less, for what asks for room by height.
use Rattle.std.proofs.Common.{◌≡◌, ℕ, zero, suc, ◌+◌, ◌<◌, ◌≤◌, Bool, true, false, cond, ◌||◌, List, [], ◌∷◌, ◌++◌, length, refl, sym, ◌∙◌, ap, subst, nat_lt, Ok, Err, arith}
use Rattle.std.proofs.lemmas.Bool.{ltb-true, lt-ltb}
use Rattle.cs_token.specs.Placed.{Placed as Token}
use Rattle.cs_productions.specs.declared.values.Measured.{Measured}
use Rattle.cs_grammar.specs.Kinds.{has, begins, subset}
use Rattle.cs_grammar.specs.Grammar.{Read, Grammar, and_then, either, guarded, turns, read_rounds}
use Rattle.cs_grammar.specs.Exact.{Exact}
use Rattle.cs_grammar.specs.Whole.{left_of, Deeper}
use Rattle.cs_grammar.specs.Levels.{Yields, Enters}
use Rattle.cs_grammar.proofs.Sets.{has-append, subset-has}
use Rattle.cs_grammar.proofs.Basics.{err_deep, err_left, not_both}
use Rattle.cs_grammar.proofs.Turns.{turn, stops, too_deep, goes, stop, round}
use Rattle.cs_grammar.proofs.Deeper.{left_within, deeper_or, deeper_limit, deeper_turns}
use Rattle.cs_productions.specs.Tokens.{kind}
use Rattle.cs_productions.proofs.Heights.{AtMost}

-- what a next token enters

pub enters_narrow : {A : Type 0} {g : Grammar Token A} {few many : List ℕ} → subset few many ≡ true → Enters kind many g → Enters kind few g
enters_narrow {g = g} {few = few} {many = many} s n = record { enters = λ ts e. n.enters ts (of ts e) }
  where
    of : (ts : List Token) → begins kind few ts ≡ true → begins kind many ts ≡ true
    of [] e = e
    of (t ∷ ts) e = subset-has few many (kind t) s e

pub enters_or : {A : Type 0} {g h : Grammar Token A} (first rest : List ℕ) → Enters kind first g → Enters kind rest h → Enters kind (first ++ rest) (either kind first g h)
enters_or {A = A} {g = g} {h = h} first rest m n = record { enters = λ ts e. by_case ts (begins kind first ts) refl e }
  where
    or_second : (a b : Bool) → a ≡ false → (a || b) ≡ true → b ≡ true
    or_second a b p q = subst (λ c. (c || b) ≡ true) p q

    of : (ts : List Token) → begins kind first ts ≡ false → begins kind (first ++ rest) ts ≡ true → begins kind rest ts ≡ true
    of [] p e = e
    of (t ∷ ts) p e = or_second (has first (kind t)) (has rest (kind t)) p (sym (has-append first rest (kind t)) ∙ e)

    by_case : (ts : List Token) (b : Bool) → begins kind first ts ≡ b → begins kind (first ++ rest) ts ≡ true → left_of (cond (begins kind first ts) (g.reads ts) (h.reads ts)) < length ts
    by_case ts true p e = subst (λ c. left_of (cond c (g.reads ts) (h.reads ts)) < length ts) (sym p) (m.enters ts p)
    by_case ts false p e = subst (λ c. left_of (cond c (g.reads ts) (h.reads ts)) < length ts) (sym p) (n.enters ts (of ts p e))

pub enters_where : {A : Type 0} {g h : Grammar Token A} (first rest : List ℕ) (room : Bool) → room ≡ true → Enters kind first g → Enters kind rest h → Enters kind (first ++ rest) (guarded kind room first g h)
enters_where first rest true r m n = enters_or first rest m n
enters_where first rest false r m n = cc

-- what there is room for with more levels, and maybe with fewer
pub deeper_where : {A : Type 0} {g wide h further : Grammar Token A} (first : List ℕ) (room more : Bool) → more ≡ true → Enters kind first wide → (room ≡ true → Deeper g wide) → Deeper h further → Deeper (guarded kind room first g h) (guarded kind more first wide further)
deeper_where first true true m n d e = deeper_or kind first (d refl) e
deeper_where first false true m n d e = deeper_limit first n e
deeper_where first room false m n d e = cc

left_then : {A B : Type 0} (r : Read Token A) (k : A → List Token → Read Token B) → ((a : A) (mid : List Token) → left_of (k a mid) ≤ length mid) → left_of (and_then r k) ≤ left_of r
left_then (Ok p) k h = h p.0 p.1
left_then (Err e) k h = omega arith

rounds_within : {A : Type 0} (first : List ℕ) (room : A → Bool) (f : A → Grammar Token A) → ((a : A) (ts : List Token) → left_of ((f a).reads ts) ≤ length ts) → (k : ℕ) (a : A) (ts : List Token) → left_of (read_rounds kind first room f k a ts) ≤ length ts
rounds_within first room f y zero a ts = omega arith
rounds_within {A = A} first room f y (suc k) a ts =
    elim (turn kind first room f k a ts (read_rounds kind first room f (suc k) a ts) refl) [
      | stops x h ↦ subst (λ (r : Read Token A). left_of r ≤ length ts) h (omega arith)
      | too_deep x o h ↦ subst (λ (r : Read Token A). left_of r ≤ length ts) h (omega arith)
      | goes x o h ↦
          let first_left : left_of (and_then ((f a).reads ts) (read_rounds kind first room f k)) ≤ left_of ((f a).reads ts) =
          left_then ((f a).reads ts) (read_rounds kind first room f k) (rounds_within first room f y k)
          in
          let all : left_of (and_then ((f a).reads ts) (read_rounds kind first room f k)) ≤ length ts = omega (arith, y a ts) in
          subst (λ (r : Read Token A). left_of r ≤ length ts) h all
    ]

-- rounds that there is never room for
pub deeper_stopped : {A : Type 0} {further : A → Grammar Token A} {ys w : List ℕ} {b : Bool} (f : A → Grammar Token A) (first : List ℕ) (room more : A → Bool) (a : A) → room a ≡ false → more a ≡ true → Enters kind first (further a) → ((c : A) → Exact kind (further c) ys w b) → Deeper (turns kind first room f a) (turns kind first more further a)
deeper_stopped {A = A} {further = further} f first room more a never always n y = record { same = same; parse = parse; deep = deep }
  where
    not_room : room a ≡ true → ⊥
    not_room e = let both : true ≡ false = sym e ∙ never in absurd (cc)

    same : (ts : List Token) (c : A) (rest : List Token) → (turns kind first room f a).reads ts ≡ Ok (c, rest) → (turns kind first more further a).reads ts ≡ Ok (c, rest)
    same [] c rest e = e
    same (t ∷ ts) c rest e =
        elim (turn kind first room f (length ts) a (t ∷ ts) (Ok (c, rest)) e) [
          | stops x h ↦ stop kind first more further (suc (length ts)) a (t ∷ ts) x ∙ h
          | too_deep x o h ↦ absurd (not_both (c, rest) (true, t ∷ ts) (sym h))
          | goes x o h ↦ absurd (not_room o)
        ]

    parse : (ts left : List Token) → (turns kind first room f a).reads ts ≡ Err (false, left) → (turns kind first more further a).reads ts ≡ Err (false, left)
    parse [] left e = absurd (not_both (a, []) (false, left) e)
    parse (t ∷ ts) left e =
        elim (turn kind first room f (length ts) a (t ∷ ts) (Err (false, left)) e) [
          | stops x h ↦ absurd (not_both (a, t ∷ ts) (false, left) h)
          | too_deep x o h ↦ let both : true ≡ false = err_deep A (true, t ∷ ts) (false, left) h in absurd (cc)
          | goes x o h ↦ absurd (not_room o)
        ]

    deep : (ts left : List Token) → (turns kind first room f a).reads ts ≡ Err (true, left) → left_of ((turns kind first more further a).reads ts) < length left
    deep [] left e = absurd (not_both (a, []) (true, left) e)
    deep (t ∷ ts) left e =
        elim (turn kind first room f (length ts) a (t ∷ ts) (Err (true, left)) e) [
          | stops x h ↦ absurd (not_both (a, t ∷ ts) (true, left) h)
          | too_deep x o h ↦
              let here : length (t ∷ ts) ≡ length left = ap length (err_left A (true, t ∷ ts) (true, left) h) in
              let enters = n.enters (t ∷ ts) x in
              let second = left_then ((further a).reads (t ∷ ts)) (read_rounds kind first more further (length ts)) (rounds_within first more further (λ c us. left_within (y c) us) (length ts)) in
              let all : left_of (and_then ((further a).reads (t ∷ ts)) (read_rounds kind first more further (length ts))) < length left = omega arith in
              subst (λ (r : Read Token A). left_of r < length left) (sym (round kind first more further (length ts) a (t ∷ ts) x always)) all
          | goes x o h ↦ absurd (not_room o)
        ]

-- rounds that raise a height
not_below_zero : (h : ℕ) → nat_lt h 0 ≡ false
not_below_zero h = by_case (nat_lt h 0) refl
  where
    by_case : (b : Bool) → nat_lt h 0 ≡ b → b ≡ false
    by_case true e = let no = ltb-true h 0 e in absurd (omega arith)
    by_case false e = refl

pub deeper_rounds : {n m : ℕ} {f further : Measured → Grammar Token Measured} {ys w : List ℕ} {b : Bool} (first : List ℕ) (a : Measured) → n + 2 ≤ m → AtMost n a → ((c : Measured) → c.height < n → Yields (AtMost n) (f c)) → (0 < n → (c : Measured) → AtMost n c → Deeper (f c) (further c)) → ((c : Measured) → Enters kind first (further c)) → ((c : Measured) → Exact kind (further c) ys w b) → Deeper (turns kind first (λ (c : Measured). nat_lt c.height n) f a) (turns kind first (λ (c : Measured). nat_lt c.height m) further a)
deeper_rounds {n = zero} {m = m} {f = f} first a more p y d e x =
    deeper_stopped f first (λ (c : Measured). nat_lt c.height 0) (λ (c : Measured). nat_lt c.height m) a (not_below_zero a.height) (lt-ltb a.height m (omega arith)) (e a) x
deeper_rounds {n = suc n} {m = m} first a more p y d e x =
    deeper_turns {P = AtMost (suc n)} first (λ (c : Measured). nat_lt c.height (suc n)) (λ (c : Measured). nat_lt c.height m) a p
    (λ c q. lt-ltb c.height m (omega arith)) (λ c q r. y c (ltb-true c.height (suc n) r)) (λ c q. d (omega arith) c q) e x
