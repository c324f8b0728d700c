-- Inner facts: the productions of expressions, level by level.
use Rattle.std.specs.Prelude.{◌≡◌, ℕ, zero, suc, Bool, true, false, List, [], ◌∷◌, nat_lt, Err}
use Rattle.cs_token.specs.Placed.{Placed as Token}
use Rattle.cs_productions.specs.declared.values.Measured.{Measured}
use Rattle.cs_productions.specs.declared.values.Part.TheVariants as part
use Rattle.cs_grammar.specs.Grammar.{Grammar, gives, ◌>>=◌}
use Rattle.cs_productions.specs.Kinds.{multiplicative_operators, additive_operators, shift_operators, equality_operators, amp, caret, bar, both, either_one}
use Rattle.cs_productions.specs.Inner.{Inner}
use Rattle.cs_productions.specs.Primaries.{with_member, indexed}
use Rattle.cs_productions.specs.Operators.{operand, unary, binaries, relations, conditional_or, chosen}
use Rattle.cs_productions.specs.Levels.{forms_at}
use Rattle.cs_statements.specs.Actions.{primary}
use Rattle.cs_layout.specs.Pieces.{Piece}
use Rattle.cs_roundtrip_types.specs.Spells.{Spells}

-- what is only derived
abbrev pub derivation : {A : Type 0} → (List Token → A → List Token → Type 0) → Grammar Token A
derivation D = record { derives = D; reads = λ ts. Err (false, ts) }

-- a value behind which may stand what this asks for, and then it is one of the grammar
abbrev pub opens : (Measured → Grammar Token Measured) → Grammar Token Measured → Grammar Token Measured
opens tail g = derivation (λ ts m rest. (made : Measured) (others : List Token) → (tail m).derives rest made others → g.derives ts made others)

-- tokens of the pieces are such a value
pub record Opens (tail : Measured → Grammar Token Measured) (g : Grammar Token Measured) (ps : List Piece) (P : Measured → Type 0) : Type 0 where
  pub opened : Spells (opens tail g) ps P

-- what a level of operators begins with, and what may stand behind: from the conditional expression (0) on, up to operands (12)
abbrev pub standing : ℕ → ℕ → Inner → Grammar Token Measured
standing zero n inner = forms_at n inner part.Whole
standing (suc zero) n inner = do a ← unary n inner; conditional_or n inner a
standing (suc (suc zero)) n inner = forms_at n inner part.ConditionalAnd
standing (suc (suc (suc zero))) n inner = forms_at n inner part.InclusiveOr
standing (suc (suc (suc (suc zero)))) n inner = forms_at n inner part.ExclusiveOr
standing (suc (suc (suc (suc (suc zero))))) n inner = forms_at n inner part.And
standing (suc (suc (suc (suc (suc (suc zero)))))) n inner = forms_at n inner part.Equality
standing (suc (suc (suc (suc (suc (suc (suc zero))))))) n inner = forms_at n inner part.Relational
standing (suc (suc (suc (suc (suc (suc (suc (suc zero)))))))) n inner = forms_at n inner part.Shift
standing (suc (suc (suc (suc (suc (suc (suc (suc (suc zero))))))))) n inner = forms_at n inner part.Additive
standing (suc (suc (suc (suc (suc (suc (suc (suc (suc (suc zero)))))))))) n inner = forms_at n inner part.Multiplicative
standing (suc (suc (suc (suc (suc (suc (suc (suc (suc (suc (suc zero))))))))))) n inner = unary n inner
standing (suc (suc (suc (suc (suc (suc (suc (suc (suc (suc (suc (suc k)))))))))))) n inner = operand n inner

abbrev pub rounds : ℕ → ℕ → Inner → Measured → Grammar Token Measured
rounds zero n inner a = chosen n inner a
rounds (suc zero) n inner a = binaries n inner (either_one ∷ []) part.ConditionalAnd a
rounds (suc (suc zero)) n inner a = binaries n inner (both ∷ []) part.InclusiveOr a
rounds (suc (suc (suc zero))) n inner a = binaries n inner (bar ∷ []) part.ExclusiveOr a
rounds (suc (suc (suc (suc zero)))) n inner a = binaries n inner (caret ∷ []) part.And a
rounds (suc (suc (suc (suc (suc zero))))) n inner a = binaries n inner (amp ∷ []) part.Equality a
rounds (suc (suc (suc (suc (suc (suc zero)))))) n inner a = binaries n inner equality_operators part.Relational a
rounds (suc (suc (suc (suc (suc (suc (suc zero))))))) n inner a = relations n inner a
rounds (suc (suc (suc (suc (suc (suc (suc (suc zero)))))))) n inner a = binaries n inner shift_operators part.Additive a
rounds (suc (suc (suc (suc (suc (suc (suc (suc (suc zero))))))))) n inner a = binaries n inner additive_operators part.Multiplicative a
rounds (suc (suc (suc (suc (suc (suc (suc (suc (suc (suc zero)))))))))) n inner a = binaries n inner multiplicative_operators part.Unary a
rounds (suc (suc (suc (suc (suc (suc (suc (suc (suc (suc (suc k))))))))))) n inner a = gives a

-- where a primary expression stands: in an expression, or at the front of a statement, which doesn't begin with a lambda
pub data Top : Type 0 where
  operands : Top
  primaries : Top

abbrev pub takes_lambda : Top → Bool
takes_lambda operands = true
takes_lambda primaries = false

abbrev pub top_at : Top → ℕ → Inner → Grammar Token Measured
top_at operands n inner = operand n inner
top_at primaries n inner = primary n inner

-- what may stand behind any primary expression; behind all but a path; behind all but a new array
abbrev pub member_tail : ℕ → Inner → Measured → Grammar Token Measured
member_tail n inner m = derivation (λ ts made others. (nat_lt m.height n ≡ true) × (with_member n inner m).derives ts made others)

abbrev pub index_tail : ℕ → Inner → Measured → Grammar Token Measured
index_tail n inner m = derivation (λ ts made others. (nat_lt m.height n ≡ true) × (indexed n inner m).derives ts made others)
