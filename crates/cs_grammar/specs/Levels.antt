-- What is said of grammars that differ in their depth alone.
use Rattle.std.specs.Prelude.{◌≡◌, ℕ, ◌<◌, true, List, length, Ok}
use Rattle.cs_grammar.specs.Kinds.{begins}
use Rattle.cs_grammar.specs.Grammar.{Grammar}
use Rattle.cs_grammar.specs.Whole.{left_of}

-- each value that is read is so
pub record Yields {T A : Type 0} (P : A → Type 0) (g : Grammar T A) : Type 0 where
  pub yields : (ts : List T) (a : A) (rest : List T) → g.reads ts ≡ Ok (a, rest) → P a

-- a next token of one of these kinds is read
pub record Enters {T A : Type 0} (kind : T → ℕ) (kinds : List ℕ) (g : Grammar T A) : Type 0 where
  pub enters : (ts : List T) → begins kind kinds ts ≡ true → left_of (g.reads ts) < length ts
