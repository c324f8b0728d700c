-- Grammars and what they are put together from. A grammar says which tokens make up a value (`derives`), as the
-- productions of a standard do, and how a reader that looks at the next token alone finds it (`reads`). What is believed
-- is `derives`; that `reads` finds the same is proved.
use Rattle.std.specs.Prelude.{◌≡◌, ◌⊎◌, ℕ, zero, suc, Bool, true, false, cond, List, [], ◌∷◌, length, Result, Ok, Err}
use Rattle.cs_grammar.specs.Kinds.{has, begins}

-- what a reader answers: a value and the tokens behind it, or whether it was too deep and the tokens from the fault on
abbrev pub Read : Type 0 → Type 0 → Type 0
Read T A = Result (A × List T) (Bool × List T)

-- `derives tokens value rest`: the tokens are those of this value, and then come the rest
pub record Grammar (T A : Type 0) : Type 1 where
  pub derives : List T → A → List T → Type 0
  pub reads : List T → Read T A

-- nothing, which is this value
abbrev pub gives : {T A : Type 0} → A → Grammar T A
gives a = record { derives = λ ts b rest. (b ≡ a) × (rest ≡ ts); reads = λ ts. Ok (a, ts) }

-- the list begins with a token of one of these kinds, which is the value
abbrev pub TakesOne : {T A : Type 0} → (T → ℕ) → List ℕ → (T → A) → List T → A → List T → Type 0
TakesOne kind kinds f [] a rest = ⊥
TakesOne kind kinds f (t ∷ ts) a rest = (has kinds (kind t) ≡ true) × (a ≡ f t) × (rest ≡ ts)

abbrev pub read_one : {T A : Type 0} → (T → ℕ) → List ℕ → (T → A) → List T → Read T A
read_one kind kinds f [] = Err (false, [])
read_one kind kinds f (t ∷ ts) = cond (has kinds (kind t)) (Ok (f t, ts)) (Err (false, t ∷ ts))

-- one token, of one of these kinds
abbrev pub one : {T A : Type 0} → (T → ℕ) → List ℕ → (T → A) → Grammar T A
one kind kinds f = record { derives = TakesOne kind kinds f; reads = read_one kind kinds f }

abbrev pub and_then : {T A B : Type 0} → Read T A → (A → List T → Read T B) → Read T B
and_then (Ok p) f = f p.0 p.1
and_then (Err e) f = Err e

-- one, and behind it what its value asks for
abbrev pub bind : {T A B : Type 0} → Grammar T A → (A → Grammar T B) → Grammar T B
bind g f =
    record {
      derives = λ ts b rest. (a : _) × (mid : _) × g.derives ts a mid × (f a).derives mid b rest;
      reads = λ ts. and_then (g.reads ts) (λ a mid. (f a).reads mid);
    }

-- the same, for `do`
abbrev pub ◌>>=◌ : {T A B : Type 0} → Grammar T A → (A → Grammar T B) → Grammar T B
◌>>=◌ g f = bind g f

-- one or the other: `g`, which begins with one of the kinds `first`, or `h`
abbrev pub either : {T A : Type 0} → (T → ℕ) → List ℕ → Grammar T A → Grammar T A → Grammar T A
either kind first g h =
    record {
      derives = λ ts a rest. g.derives ts a rest ⊎ h.derives ts a rest;
      reads = λ ts. cond (begins kind first ts) (g.reads ts) (h.reads ts);
    }

-- `h`, at a depth at which what begins with one of these kinds would be too deep
abbrev pub limited : {T A : Type 0} → (T → ℕ) → List ℕ → Grammar T A → Grammar T A
limited kind kinds h = record { derives = h.derives; reads = λ ts. cond (begins kind kinds ts) (Err (true, ts)) (h.reads ts) }

-- one or the other, where the depth leaves room for the one, else the other
abbrev pub guarded : {T A : Type 0} → (T → ℕ) → Bool → List ℕ → Grammar T A → Grammar T A → Grammar T A
guarded kind room first g h = cond room (either kind first g h) (limited kind first h)

-- one or the other, where what was read before allows the one, else the other
abbrev pub choice : {T A : Type 0} → (T → ℕ) → Bool → List ℕ → Grammar T A → Grammar T A → Grammar T A
choice kind may first g h = cond may (either kind first g h) h

-- `n` rounds of `f`, each with the value of the one before; before each of them the depth leaves room for one more
abbrev pub Rounds : {T A : Type 0} → (A → Bool) → (A → Grammar T A) → ℕ → A → List T → A → List T → Type 0
Rounds room f zero a ts c rest = (c ≡ a) × (rest ≡ ts)
Rounds room f (suc n) a ts c rest = (b : _) × (mid : _) × (room a ≡ true) × (f a).derives ts b mid × Rounds room f n b mid c rest

-- at most `n` rounds, as long as one begins
abbrev pub read_rounds : {T A : Type 0} → (T → ℕ) → List ℕ → (A → Bool) → (A → Grammar T A) → ℕ → A → List T → Read T A
read_rounds kind first room f zero a ts = Ok (a, ts)
read_rounds kind first room f (suc n) a ts =
    cond (begins kind first ts) (cond (room a) (and_then ((f a).reads ts) (read_rounds kind first room f n)) (Err (true, ts))) (Ok (a, ts))

-- some number of rounds, from this value on; each begins with one of the kinds `first`
abbrev pub turns : {T A : Type 0} → (T → ℕ) → List ℕ → (A → Bool) → (A → Grammar T A) → A → Grammar T A
turns kind first room f a =
    record {
      derives = λ ts c rest. (n : ℕ) × Rounds room f n a ts c rest;
      reads = λ ts. read_rounds kind first room f (length ts) a ts;
    }
