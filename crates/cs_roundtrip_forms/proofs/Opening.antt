-- Values behind which more may stand, and levels of operators.
use Rattle.std.proofs.Common.{◌≡◌, inl, inr, ℕ, zero, suc, ◌≤◌, Bool, true, false, List, [], ◌∷◌, ◌++◌, refl, sym, subst, nat_lt, arith}
use Rattle.std.proofs.Math.Nat.{eq-or-lt_of_le}
use Rattle.cs_token.specs.Placed.{Placed as Token}
use Rattle.cs_token.specs.Tokens.{kind_of}
use Rattle.cs_token.specs.declared.lexeme.Lexeme.{Lexeme}
use Rattle.cs_productions.specs.declared.values.Measured.{Measured}
use Rattle.cs_grammar.specs.Kinds.{has}
use Rattle.cs_grammar.specs.Grammar.{Grammar, gives, one, bind, guarded, turns}
use Rattle.cs_layout.specs.Pieces.{Piece, gap, token}
use Rattle.cs_productions.specs.Kinds.{question, unary_operators}
use Rattle.cs_productions.specs.Tokens.{kind}
use Rattle.cs_productions.specs.Inner.{Inner}
use Rattle.cs_productions.specs.Operators.{operand, unary, signed, choosing}
use Rattle.cs_roundtrip_types.specs.Spells.{lexemes, Spells}
use Rattle.cs_roundtrip_types.proofs.Spelling.{says_nothing, skips, takes, says_then, says_made, says_in, says_so, says_like}
use Rattle.cs_roundtrip_forms.specs.Standing.{derivation, opens, Opens, standing, rounds}

-- grammars that end in a tail

given : (g : Grammar Token Measured) {ts : List Token} {m made : Measured} {rest others : List Token} → g.derives ts m rest → made ≡ m → others ≡ rest → g.derives ts made others
given g {ts = ts} {m = m} {made = made} {others = others} d e h = subst (λ b. g.derives ts b others) (sym e) (subst (λ us. g.derives ts m us) (sym h) d)

pub opens_end : {P : Measured → Type 0} (tail : Measured → Grammar Token Measured) (m : Measured) → P m → Opens tail (tail m) [] P
opens_end {P = P} tail m p =
    record {
      opened = says_in {g = gives m} (λ ts a rest q d made others t. subst (λ us. (tail m).derives us made others) d.1 (subst (λ b. (tail b).derives rest made others) d.0 t)) (says_nothing {P = P} m p);
    }

pub opens_in : {P : Measured → Type 0} {tail : Measured → Grammar Token Measured} {g h : Grammar Token Measured} {ps : List Piece}
    → ((ts : List Token) (m : Measured) (rest : List Token) → g.derives ts m rest → h.derives ts m rest) → Opens tail g ps P → Opens tail h ps P
opens_in f x = record { opened = says_in (λ ts m rest p d made others t. f ts made others (d made others t)) x.opened }

pub opens_with : {P : Measured → Type 0} {tail other : Measured → Grammar Token Measured} {g : Grammar Token Measured} {ps : List Piece}
    → ((m : Measured) (ts : List Token) (made : Measured) (rest : List Token) → (other m).derives ts made rest → (tail m).derives ts made rest) → Opens tail g ps P → Opens other g ps P
opens_with f x = record { opened = says_in (λ ts m rest p d made others t. d made others (f m rest made others t)) x.opened }

pub opens_so : {P Q : Measured → Type 0} {tail : Measured → Grammar Token Measured} {g : Grammar Token Measured} {ps : List Piece} → Opens tail g ps P
    → ((m : Measured) → P m → Q m) → Opens tail g ps Q
opens_so x f = record { opened = says_so x.opened f }

pub opens_like : {P : Measured → Type 0} {tail : Measured → Grammar Token Measured} {g : Grammar Token Measured} {ps qs : List Piece} → Opens tail g ps P
    → lexemes qs ≡ lexemes ps → Opens tail g qs P
opens_like x same = record { opened = says_like x.opened same }

pub opens_skips : {P : Measured → Type 0} {tail : Measured → Grammar Token Measured} {g : Grammar Token Measured} {ps : List Piece} (b : List ℕ) → Opens tail g ps P
    → Opens tail g (gap b ∷ ps) P
opens_skips b x = record { opened = skips b x.opened }

pub opens_then : {A : Type 0} {P : A → Type 0} {Q : Measured → Type 0} {tail : Measured → Grammar Token Measured} {g : Grammar Token A} {f : A → Grammar Token Measured} {ps qs : List Piece}
    → Spells g ps P → ((a : A) → P a → Opens tail (f a) qs Q) → Opens tail (bind g f) (ps ++ qs) Q
opens_then {tail = tail} {g = g} {f = f} x y =
    record { opened = says_in {g = bind g (λ a. opens tail (f a))} (λ ts m rest q d made others t. (d.0, d.1, d.2, d.3 made others t)) (says_then x (λ a p. (y a p).opened)) }

pub opens_takes : {A : Type 0} {P : Measured → Type 0} {tail : Measured → Grammar Token Measured} {ps : List Piece} {f : A → Grammar Token Measured} (kinds : List ℕ) (made : Token → A) (l : Lexeme)
    → has kinds (kind_of l) ≡ true → ((t : Token) → t.lexeme ≡ l → Opens tail (f (made t)) ps P) → Opens tail (bind (one kind kinds made) f) (token l ∷ ps) P
opens_takes {tail = tail} {f = f} kinds made l is next =
    record {
      opened = says_in {g = bind (one kind kinds made) (λ a. opens tail (f a))} (λ ts m rest q d m′ others t. (d.0, d.1, d.2, d.3 m′ others t)) (takes kinds made l is (λ t e. (next t e).opened));
    }

-- the last part, and what is made of it
pub opens_last : {P : Measured → Type 0} {g : Grammar Token Measured} {ps : List Piece} (tail : Measured → Grammar Token Measured) → Spells g ps P → Opens tail (bind g tail) ps P
opens_last {g = g} tail x = record { opened = says_in {g = g} (λ ts m rest p d made others t. (m, rest, d, t)) x }

pub opens_made : {A : Type 0} {P : A → Type 0} {Q : Measured → Type 0} {g : Grammar Token A} {ps : List Piece} (tail : Measured → Grammar Token Measured) (f : A → Measured) → Spells g ps P
    → ((a : A) → P a → Q (f a)) → Opens tail (bind g (λ a. tail (f a))) ps Q
opens_made {g = g} tail f x y =
    record {
      opened = says_in {g = bind g (λ a. gives (f a))}
          (λ ts m rest q d made others t. (d.0, d.1, d.2, subst (λ us. (tail (f d.0)).derives us made others) d.3.1 (subst (λ b. (tail b).derives rest made others) d.3.0 t)))
          (says_made f x y);
    }

-- what is a value of the grammar by itself
pub closes : {P : Measured → Type 0} {tail : Measured → Grammar Token Measured} {g : Grammar Token Measured} {ps : List Piece}
    → ((m : Measured) (ts : List Token) → (tail m).derives ts m ts) → Opens tail g ps P → Spells g ps P
closes none x = says_in (λ ts m rest p d. d m rest (none m rest)) x.opened

-- what stands behind, where the value lets it
abbrev where_may : (Measured → Type 0) → (Measured → Grammar Token Measured) → Measured → Grammar Token Measured
where_may May f a = derivation (λ ts b rest. May a × (f a).derives ts b rest)

behind : {P Q : Measured → Type 0} {g : Grammar Token Measured} {f : Measured → Grammar Token Measured} {ps qs : List Piece} (May : Measured → Type 0)
    → Spells g ps P → ((m : Measured) → P m → May m) → ((m : Measured) → P m → Spells (f m) qs Q) → Spells (bind g (where_may May f)) (ps ++ qs) Q
behind May x may y = says_then x (λ a p. says_in (λ ts b rest q d. (may a p, d)) (y a p))

-- one more round behind
pub opens_round : {P Q : Measured → Type 0} {g : Grammar Token Measured} {ps qs : List Piece} (first : List ℕ) (room : Measured → Bool) (f : Measured → Grammar Token Measured)
    → Opens (turns kind first room f) g ps P → ((m : Measured) → P m → room m ≡ true) → ((m : Measured) → P m → Spells (f m) qs Q)
    → Opens (turns kind first room f) g (ps ++ qs) Q
opens_round {g = g} first room f x may y =
    record {
      opened = says_in {g = bind (opens (turns kind first room f) g) (where_may (λ a. room a ≡ true) f)}
          (λ ts m rest q d made others t. d.2 made others (suc t.0, (m, rest, d.3.0, d.3.1, t.1)))
          (behind (λ a. room a ≡ true) x.opened may y);
    }

-- what stands behind and may be followed itself
pub opens_behind : {P Q : Measured → Type 0} {tail other : Measured → Grammar Token Measured} {g : Grammar Token Measured} {ps qs : List Piece} (May : Measured → Type 0) (f : Measured → Grammar Token Measured)
    → ((m : Measured) (ts : List Token) (made : Measured) (rest : List Token) → May m → (bind (f m) other).derives ts made rest → (tail m).derives ts made rest)
    → Opens tail g ps P → ((m : Measured) → P m → May m) → ((m : Measured) → P m → Spells (f m) qs Q) → Opens other g (ps ++ qs) Q
opens_behind {tail = tail} {g = g} May f to x may y =
    record {
      opened = says_in {g = bind (opens tail g) (where_may May f)}
          (λ ts m rest q d made others t. d.2 made others (to d.0 d.1 made others d.3.0 (m, rest, d.3.1, t)))
          (behind May x.opened may y);
    }

-- what stands behind and ends there
pub says_behind : {P Q : Measured → Type 0} {tail : Measured → Grammar Token Measured} {g : Grammar Token Measured} {ps qs : List Piece} (May : Measured → Type 0) (f : Measured → Grammar Token Measured)
    → ((m : Measured) (ts : List Token) (made : Measured) (rest : List Token) → May m → (f m).derives ts made rest → (tail m).derives ts made rest)
    → Opens tail g ps P → ((m : Measured) → P m → May m) → ((m : Measured) → P m → Spells (f m) qs Q) → Spells g (ps ++ qs) Q
says_behind {tail = tail} {g = g} May f to x may y =
    says_in {g = bind (opens tail g) (where_may May f)} (λ ts m rest q d. d.2 m rest (to d.0 d.1 m rest d.3.0 d.3.1)) (behind May x.opened may y)

-- guarded, where the first part isn't wanted
pub else_derives : {A : Type 0} (room : Bool) (first : List ℕ) (g h : Grammar Token A) (ts : List Token) (a : A) (rest : List Token) → h.derives ts a rest → (guarded kind room first g h).derives ts a rest
else_derives true first g h ts a rest d = inr d
else_derives false first g h ts a rest d = d

pub where_derives : {A : Type 0} (room : Bool) (first : List ℕ) (g h : Grammar Token A) (ts : List Token) (a : A) (rest : List Token) → room ≡ true → g.derives ts a rest → (guarded kind room first g h).derives ts a rest
where_derives room first g h ts a rest is d = subst (λ b. (guarded kind b first g h).derives ts a rest) (sym is) (inl d)

-- one level down: nothing stands behind yet

pub opens_level : {P : Measured → Type 0} (k n : ℕ) (inner : Inner) {ps : List Piece} → Spells (standing (suc k) n inner) ps P → Opens (rounds k n inner) (standing k n inner) ps P
opens_level zero n inner x = record { opened = says_in (λ ts m rest p d made others t. (d.0, d.1, d.2, (m, rest, d.3, t))) x }
opens_level (suc zero) n inner x = record { opened = says_in (λ ts m rest p d made others t. (d.0, d.1, d.2, (m, rest, d.3, t))) x }
opens_level (suc (suc zero)) n inner x = record { opened = says_in (λ ts m rest p d made others t. (d.0, d.1, d.2, (m, rest, d.3, t))) x }
opens_level (suc (suc (suc zero))) n inner x = record { opened = says_in (λ ts m rest p d made others t. (d.0, d.1, d.2, (m, rest, d.3, t))) x }
opens_level (suc (suc (suc (suc zero)))) n inner x = record { opened = says_in (λ ts m rest p d made others t. (d.0, d.1, d.2, (m, rest, d.3, t))) x }
opens_level (suc (suc (suc (suc (suc zero))))) n inner x = record { opened = says_in (λ ts m rest p d made others t. (d.0, d.1, d.2, (m, rest, d.3, t))) x }
opens_level (suc (suc (suc (suc (suc (suc zero)))))) n inner x = record { opened = says_in (λ ts m rest p d made others t. (d.0, d.1, d.2, (m, rest, d.3, t))) x }
opens_level (suc (suc (suc (suc (suc (suc (suc zero))))))) n inner x = record { opened = says_in (λ ts m rest p d made others t. (d.0, d.1, d.2, (m, rest, d.3, t))) x }
opens_level (suc (suc (suc (suc (suc (suc (suc (suc zero)))))))) n inner x = record { opened = says_in (λ ts m rest p d made others t. (d.0, d.1, d.2, (m, rest, d.3, t))) x }
opens_level (suc (suc (suc (suc (suc (suc (suc (suc (suc zero))))))))) n inner x = record { opened = says_in (λ ts m rest p d made others t. (d.0, d.1, d.2, (m, rest, d.3, t))) x }
opens_level (suc (suc (suc (suc (suc (suc (suc (suc (suc (suc zero)))))))))) n inner x = record { opened = says_in (λ ts m rest p d made others t. (m, rest, d, t)) x }
opens_level (suc (suc (suc (suc (suc (suc (suc (suc (suc (suc (suc zero))))))))))) n inner x =
    record { opened = says_in {g = operand n inner} (λ ts m rest p d made others t. given (unary n inner) (else_derives (nat_lt 0 n) unary_operators (signed inner) (operand n inner) ts m rest d) t.0 t.1) x }
opens_level (suc (suc (suc (suc (suc (suc (suc (suc (suc (suc (suc (suc (k))))))))))))) n inner x = record { opened = says_in {g = operand n inner} (λ ts m rest p d made others t. given (operand n inner) d t.0 t.1) x }

pub no_rounds : (k n : ℕ) (inner : Inner) (m : Measured) (ts : List Token) → (rounds k n inner m).derives ts m ts
no_rounds zero n inner m ts = else_derives (nat_lt m.height n) (question ∷ []) (choosing inner m) (gives m) ts m ts (refl, refl)
no_rounds (suc zero) n inner m ts = (zero, (refl, refl))
no_rounds (suc (suc zero)) n inner m ts = (zero, (refl, refl))
no_rounds (suc (suc (suc zero))) n inner m ts = (zero, (refl, refl))
no_rounds (suc (suc (suc (suc zero)))) n inner m ts = (zero, (refl, refl))
no_rounds (suc (suc (suc (suc (suc zero))))) n inner m ts = (zero, (refl, refl))
no_rounds (suc (suc (suc (suc (suc (suc zero)))))) n inner m ts = (zero, (refl, refl))
no_rounds (suc (suc (suc (suc (suc (suc (suc zero))))))) n inner m ts = (zero, (refl, refl))
no_rounds (suc (suc (suc (suc (suc (suc (suc (suc zero)))))))) n inner m ts = (zero, (refl, refl))
no_rounds (suc (suc (suc (suc (suc (suc (suc (suc (suc zero))))))))) n inner m ts = (zero, (refl, refl))
no_rounds (suc (suc (suc (suc (suc (suc (suc (suc (suc (suc zero)))))))))) n inner m ts = (zero, (refl, refl))
no_rounds (suc (suc (suc (suc (suc (suc (suc (suc (suc (suc (suc (k)))))))))))) n inner m ts = (refl, refl)

-- what stands at a level stands at each lower one
pub lower : {P : Measured → Type 0} (level w n : ℕ) (inner : Inner) {ps : List Piece} → w ≤ level → Spells (standing level n inner) ps P → Spells (standing w n inner) ps P
lower zero zero n inner l x = x
lower zero (suc w) n inner l x = absurd (omega (arith, l))
lower {P = P} (suc k) w n inner {ps} l x = elim (eq-or-lt_of_le l) [
  | inl e ↦ subst (λ j. Spells (standing j n inner) ps P) (sym e) x
  | inr h ↦ lower k w n inner (omega (arith, l, h)) (closes (no_rounds k n inner) (opens_level k n inner x))
]
