-- A list of tokens has one answer: a value that it is, or its first token with which no list of the grammar goes on.
use Rattle.std.specs.Prelude.{◌≡◌, ℕ, ◌+◌, Bool, List, Result}
use Rattle.cs_token.specs.Placed.{Placed as Token}
use Rattle.cs_grammar.specs.Grammar.{Grammar}
use Rattle.cs_grammar.specs.Whole.{Answers}
use Rattle.cs_productions.specs.Types.{ty, param}

-- there is an answer, and any other is the same
abbrev pub OneAnswer : {A : Type 0} → Grammar Token A → Grammar Token A → Type 0
OneAnswer {A} g wide =
    (ts : List Token) → (r : Result A (Bool × List Token)) × Answers g wide ts r × ((s : Result A (Bool × List Token)) → Answers g wide ts s → r ≡ s)

-- with at most so many pairs of brackets; a fault is one of depth where one more pair would go on
abbrev pub HasOneType : Type 0
HasOneType = (ranks : ℕ) → OneAnswer (ty ranks) (ty (ranks + 1))

abbrev pub HasOneParam : Type 0
HasOneParam = (ranks : ℕ) → OneAnswer (param ranks) (param (ranks + 1))
