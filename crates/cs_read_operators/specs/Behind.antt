-- The levels of two-place operators and `?:` behind a sum (ECMA-334, 12.11 to 12.14 and 12.18).
use Rattle.std.specs.Prelude.{ℕ, List, [], ◌∷◌}
use Rattle.cs_token.specs.Placed.{Placed as Token}
use Rattle.cs_productions.specs.declared.values.Measured.{Measured}
use Rattle.cs_productions.specs.declared.values.Part.TheVariants as part
use Rattle.cs_grammar.specs.Grammar.{Grammar, ◌>>=◌}
use Rattle.cs_productions.specs.Kinds.{question, shift_left, shift_right, less, greater, at_most, at_least, kw_is, kw_as, equal, unequal, shift_operators, equality_operators, amp, caret, bar, both, either_one}
use Rattle.cs_productions.specs.Inner.{Inner}
use Rattle.cs_productions.specs.Operators.{binaries, relations, chosen}

-- what any of these levels goes on with
abbrev pub behind_sums : List ℕ
behind_sums =
    shift_left ∷ shift_right ∷ less ∷ greater ∷ at_most ∷ at_least ∷ kw_is ∷ kw_as ∷ equal ∷ unequal ∷ amp ∷ caret ∷ bar ∷ both ∷ either_one ∷ question ∷ []

abbrev pub shift : ℕ → Inner → Measured → Grammar Token Measured
shift n inner sum = binaries n inner shift_operators part.Additive sum

abbrev pub relational : ℕ → Inner → Measured → Grammar Token Measured
relational n inner sum = do b ← shift n inner sum; relations n inner b

abbrev pub equality : ℕ → Inner → Measured → Grammar Token Measured
equality n inner sum = do b ← relational n inner sum; binaries n inner equality_operators part.Relational b

abbrev pub and : ℕ → Inner → Measured → Grammar Token Measured
and n inner sum = do b ← equality n inner sum; binaries n inner (amp ∷ []) part.Equality b

abbrev pub exclusive_or : ℕ → Inner → Measured → Grammar Token Measured
exclusive_or n inner sum = do b ← and n inner sum; binaries n inner (caret ∷ []) part.And b

abbrev pub inclusive_or : ℕ → Inner → Measured → Grammar Token Measured
inclusive_or n inner sum = do b ← exclusive_or n inner sum; binaries n inner (bar ∷ []) part.ExclusiveOr b

abbrev pub conditional_and : ℕ → Inner → Measured → Grammar Token Measured
conditional_and n inner sum = do b ← inclusive_or n inner sum; binaries n inner (both ∷ []) part.InclusiveOr b

abbrev pub conditional_or : ℕ → Inner → Measured → Grammar Token Measured
conditional_or n inner sum = do b ← conditional_and n inner sum; binaries n inner (either_one ∷ []) part.ConditionalAnd b

abbrev pub conditional : ℕ → Inner → Measured → Grammar Token Measured
conditional n inner sum = do b ← conditional_or n inner sum; chosen n inner b
