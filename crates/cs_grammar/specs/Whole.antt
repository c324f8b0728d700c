-- A whole list of tokens: the value that it makes up, or the first token with which no list of the grammar goes on.
use Rattle.std.specs.Prelude.{ℕ, ◌≡◌, ◌<◌, Bool, true, false, List, [], ◌∷◌, ◌++◌, length, Result, Ok, Err}
use Rattle.cs_grammar.specs.Grammar.{Read, Grammar}

-- these tokens go on to a whole value
abbrev pub Viable : {T A : Type 0} → Grammar T A → List T → Type 0
Viable g ts = (more : _) × (a : _) × g.derives (ts ++ more) a []

-- behind these tokens, no value goes on with the next one, or ends at the end
abbrev pub Blocked : {T A : Type 0} → Grammar T A → List T → List T → Type 0
Blocked g ts [] = (a : _) → g.derives ts a [] → ⊥
Blocked g ts (next ∷ rest) = Viable g (ts ++ next ∷ []) → ⊥

-- behind these tokens, some value goes on with the next one
abbrev pub Passes : {T A : Type 0} → Grammar T A → List T → List T → Type 0
Passes g ts [] = ⊥
Passes g ts (next ∷ rest) = Viable g (ts ++ next ∷ [])

-- too deep: where there may be more levels, it goes on; else it doesn't go on there either
abbrev pub Depth : {T A : Type 0} → Grammar T A → List T → List T → Bool → Type 0
Depth wide ts left true = Passes wide ts left
Depth wide ts left false = Blocked wide ts left

-- The fault of a list that makes up no value of `g` stands at the first token with which no list of `g` goes on, or at the
-- end. It is one of depth where `wide`, the same grammar with more levels, goes on with that token.
pub record IsFault {T A : Type 0} (g wide : Grammar T A) (ts : List T) (deep : Bool) (left : List T) : Type 0 where
  pub front : List T
  pub split : ts ≡ front ++ left
  pub goes_on : Viable g front
  pub blocked : Blocked g front left
  pub depth : Depth wide front left deep

-- what a whole list is: a value of `g`, or a fault
abbrev pub Answers : {T A : Type 0} → Grammar T A → Grammar T A → List T → Result A (Bool × List T) → Type 0
Answers g wide ts (Ok a) = g.derives ts a []
Answers g wide ts (Err e) = IsFault g wide ts e.0 e.1

-- what is read of a whole list: a value with nothing behind it
abbrev pub at_end : {T A : Type 0} → A → List T → Result A (Bool × List T)
at_end a [] = Ok a
at_end a (next ∷ rest) = Err (false, next ∷ rest)

abbrev pub whole : {T A : Type 0} → Read T A → Result A (Bool × List T)
whole (Ok p) = at_end p.0 p.1
whole (Err e) = Err e

-- the number of tokens from the end of what was read on
abbrev pub left_of : {T A : Type 0} → Read T A → ℕ
left_of (Ok p) = length p.1
left_of (Err e) = length e.1

-- `wide` is `g` with more levels: it reads what `g` reads, fails where `g` fails, and where `g` is too deep it gets further
pub record Deeper {T A : Type 0} (g wide : Grammar T A) : Type 0 where
  pub same : (ts : List T) (a : A) (rest : List T) → g.reads ts ≡ Ok (a, rest) → wide.reads ts ≡ Ok (a, rest)
  pub parse : (ts left : List T) → g.reads ts ≡ Err (false, left) → wide.reads ts ≡ Err (false, left)
  pub deep : (ts left : List T) → g.reads ts ≡ Err (true, left) → left_of (wide.reads ts) < length left
