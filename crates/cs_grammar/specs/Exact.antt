-- What it is for a grammar's reader to be exact, after Krishnaswami and Yallop, 'A typed, algebraic approach to parsing'.
-- `first` has the kinds that a value begins with, `follow` those at which a value that could end here would go on, and
-- `null` says whether a value may have no tokens.
use Rattle.std.specs.Prelude.{◌≡◌, ◌⊎◌, ℕ, Bool, true, false, List, [], ◌∷◌, ◌++◌, Ok, Err}
use Rattle.cs_grammar.specs.Kinds.{has, begins}
use Rattle.cs_grammar.specs.Grammar.{Grammar}

-- the tokens of a value begin with one of these kinds, or there are none
abbrev pub Starts : {T : Type 0} → (T → ℕ) → List ℕ → Bool → List T → Type 0
Starts kind first null [] = null ≡ true
Starts kind first null (t ∷ ts) = has first (kind t) ≡ true

-- both lists are at their end, or their next tokens are of one kind
abbrev pub Alike : {T : Type 0} → (T → ℕ) → List T → List T → Type 0
Alike kind [] [] = Unit {0}
Alike kind [] (u ∷ us) = ⊥
Alike kind (t ∷ ts) [] = ⊥
Alike kind (t ∷ ts) (u ∷ us) = kind t ≡ kind u

-- where these tokens stand behind a value, those may stand there
abbrev pub Fits : {T : Type 0} → (T → ℕ) → List ℕ → List T → List T → Type 0
Fits kind follow rest other = (begins kind follow other ≡ false) ⊎ Alike kind rest other

-- the tokens of a value stand in front of the rest
pub record Taken {T : Type 0} (kind : T → ℕ) (first : List ℕ) (null : Bool) (ts rest : List T) : Type 0 where
  pub front : List T
  pub split : ts ≡ front ++ rest
  pub starts : Starts kind first null front

-- what was read is read before other tokens too
pub record Moved {T A : Type 0} (kind : T → ℕ) (g : Grammar T A) (first follow : List ℕ) (null : Bool) (ts : List T) (a : A) (rest : List T) : Type 0 where
  pub front : List T
  pub split : ts ≡ front ++ rest
  pub starts : Starts kind first null front
  pub again : (other : List T) → Fits kind follow rest other → g.reads (front ++ other) ≡ Ok (a, other)

-- A fault depends on the tokens up to its place and on the kind of the one that stands there, and what stands before it
-- goes on to a value.
pub record Stuck {T A : Type 0} (kind : T → ℕ) (g : Grammar T A) (ts : List T) (deep : Bool) (left : List T) : Type 0 where
  pub front : List T
  pub split : ts ≡ front ++ left
  pub same : (other : List T) → Alike kind left other → g.reads (front ++ other) ≡ Err (deep, other)
  pub onward : List T
  pub value : A
  pub whole : g.reads (front ++ onward) ≡ Ok (value, [])

-- some list is read to its end
pub record Lives {T A : Type 0} (g : Grammar T A) : Type 0 where
  pub text : List T
  pub value : A
  pub whole : g.reads text ≡ Ok (value, [])

pub record Exact {T A : Type 0} (kind : T → ℕ) (g : Grammar T A) (first follow : List ℕ) (null : Bool) : Type 0 where
  pub sound : (ts : List T) (a : A) (rest : List T) → g.reads ts ≡ Ok (a, rest) → g.derives ts a rest
  pub again : (ts : List T) (a : A) (rest : List T) → g.derives ts a rest → begins kind follow rest ≡ false → g.reads ts ≡ Ok (a, rest)
  pub heads : (ts : List T) (a : A) (rest : List T) → g.derives ts a rest → Taken kind first null ts rest
  pub moves : (ts : List T) (a : A) (rest : List T) → g.reads ts ≡ Ok (a, rest) → Moved kind g first follow null ts a rest
  pub stuck : (ts : List T) (deep : Bool) (left : List T) → g.reads ts ≡ Err (deep, left) → Stuck kind g ts deep left
  pub lives : Lives g
