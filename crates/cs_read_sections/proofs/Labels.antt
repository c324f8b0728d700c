-- A label of a switch section from what was read of its tokens.
use Rattle.std.proofs.Common.{◌≡◌, Bool, List, ap, ◌∙◌, sym, Ok, Err}
use Rattle.cs_grammar.specs.Grammar.{Read, read_one, and_then, one}
use Rattle.cs_grammar.proofs.Bind.{and_then-ok, and_then-err}
use Rattle.cs_token.specs.Placed.{Placed as Token}
use Rattle.cs_tree.specs.declared.types.Spot.{Spot}
use Rattle.cs_tree.specs.declared.forms.Literal.{Literal}
use Rattle.cs_tree.specs.declared.forms.SwitchLabel.{SwitchLabel}
use Rattle.cs_tree.specs.declared.forms.SwitchLabel.TheVariants as switch_label
use Rattle.cs_productions.specs.Kinds.{colon, kw_case}
use Rattle.cs_productions.specs.Tokens.{kind, sign, place, literal_of}
use Rattle.cs_statements.specs.Kinds.{literal_kinds}
use Rattle.cs_statements.specs.Structured.{case_label}
use Rattle.cs_read_types.proofs.Ones.{one_of}

abbrev case_of : Spot → List Token → Literal → Read Token SwitchLabel
case_of s rest l = Ok (switch_label.Case s l, rest)

abbrev behind_literal : Spot → Literal → List Token → Read Token SwitchLabel
behind_literal s l mid = and_then ((sign colon).reads mid) (λ _ rest. case_of s rest l)

abbrev behind_case : Spot → List Token → Read Token SwitchLabel
behind_case s mid = and_then ((one kind literal_kinds (λ (t : Token). literal_of t.lexeme)).reads mid) (λ l rest. behind_literal s l rest)

pub case_reads : (ts us vs ws : List Token) (s : Spot) (t : Token) (l : Literal) → (place kw_case).reads ts ≡ Ok (s, us) → read_one kind literal_kinds (λ u. u) us ≡ Ok (t, vs) → (sign colon).reads vs ≡ Ok (tt, ws) → l ≡ literal_of t.lexeme → case_label.reads ts ≡ Ok (switch_label.Case s l, ws)
case_reads ts us vs ws s t l a b c d =
    and_then-ok ((place kw_case).reads ts) s us (λ u mid. behind_case u mid) a
    ∙ (and_then-ok ((one kind literal_kinds (λ (u : Token). literal_of u.lexeme)).reads us) (literal_of t.lexeme) vs (λ m rest. behind_literal s m rest) (one_of kind literal_kinds (λ (u : Token). literal_of u.lexeme) us t vs b)
    ∙ (and_then-ok ((sign colon).reads vs) tt ws (λ _ rest. case_of s rest (literal_of t.lexeme)) c ∙ ap (case_of s ws) (sym d)))

-- no `:` stands behind the literal
pub case_fails : (ts us vs left : List Token) (s : Spot) (t : Token) (deep : Bool) → (place kw_case).reads ts ≡ Ok (s, us) → read_one kind literal_kinds (λ u. u) us ≡ Ok (t, vs) → (sign colon).reads vs ≡ Err (deep, left) → case_label.reads ts ≡ Err (deep, left)
case_fails ts us vs left s t deep a b c =
    and_then-ok ((place kw_case).reads ts) s us (λ u mid. behind_case u mid) a
    ∙ (and_then-ok ((one kind literal_kinds (λ (u : Token). literal_of u.lexeme)).reads us) (literal_of t.lexeme) vs (λ m rest. behind_literal s m rest) (one_of kind literal_kinds (λ (u : Token). literal_of u.lexeme) us t vs b)
    ∙ and_then-err ((sign colon).reads vs) deep left (λ _ rest. case_of s rest (literal_of t.lexeme)) c)
