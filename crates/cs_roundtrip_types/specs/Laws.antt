-- What is printed is read back (ECMA-334, 8 and 15.6.2).
use Rattle.std.specs.Prelude.{◌≡◌, ℕ, ◌+◌, Bool, List, [], map, Result, Ok}
use Rattle.cs_token.specs.Placed.{Placed as Token}
use Rattle.cs_tree.specs.declared.types.TypeForm.{TypeForm}
use Rattle.cs_tree.specs.declared.types.Param.{Param}
use Rattle.cs_tree.specs.Bare.{bare_type, bare_param}
use Rattle.cs_grammar.specs.Grammar.{Grammar}
use Rattle.cs_grammar.specs.Whole.{Answers}
use Rattle.cs_productions.specs.Types.{ty, param}
use Rattle.cs_layout.specs.Pieces.{Piece, tokens}
use Rattle.cs_layout.specs.Words.{type_pieces, param_pieces}
use Rattle.cs_wellformed.specs.Words.{IsType, IsParam}

-- these tokens, wherever they stand, are those of the pieces
abbrev pub AreTokensOf : List Piece → List Token → Type 0
AreTokensOf ps ts = map (λ t. t.lexeme) ts ≡ map (λ p. p.1) (tokens ps)

-- Tokens of the pieces are a value of the grammar, which is what is wanted, and they are nothing else. `wide` is the same grammar within
-- greater depths.
abbrev pub IsReadBack : {A : Type 0} → Grammar Token A → Grammar Token A → (A → Type 0) → List Piece → Type 0
IsReadBack {A} g wide Wanted ps =
    (ts : List Token) → AreTokensOf ps ts → (a : A) × Wanted a × g.derives ts a [] × ((r : Result A (Bool × List Token)) → Answers g wide ts r → r ≡ Ok a)

-- the same type, or parameter, but for its places
abbrev pub TypesAreReadBack : Type 0
TypesAreReadBack = (limit : ℕ) (t : TypeForm) → IsType limit t → IsReadBack (ty limit) (ty (limit + 1)) (λ u. bare_type u ≡ bare_type t) (type_pieces t)

abbrev pub ParamsAreReadBack : Type 0
ParamsAreReadBack = (limit : ℕ) (p : Param) → IsParam limit p → IsReadBack (param limit) (param (limit + 1)) (λ q. bare_param q ≡ bare_param p) (param_pieces p)
