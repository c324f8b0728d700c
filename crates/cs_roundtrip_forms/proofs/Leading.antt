-- Where a primary expression stands at the front of an expression, of a statement, and in parentheses.
use Rattle.std.proofs.Common.{◌≡◌, ◌⊎◌, inl, inr, ℕ, suc, ◌||◌, ◌==◌, Bool, true, false, List, [], ◌∷◌, ◌++◌, Option, Some, None, refl, ◌∙◌, ap, subst, nat_lt, arith}
use Rattle.cs_token.specs.Placed.{Placed as Token}
use Rattle.cs_tree.specs.declared.types.Spot.{Spot}
use Rattle.cs_tree.specs.declared.types.TypeForm.{TypeForm}
use Rattle.cs_productions.specs.declared.values.Measured.{Measured}
use Rattle.cs_productions.specs.declared.values.Part.TheVariants as part
use Rattle.cs_grammar.specs.Kinds.{has}
use Rattle.cs_grammar.specs.Grammar.{gives, bind, either, guarded, TakesOne}
use Rattle.cs_productions.specs.Kinds.{names, paren, unparen, bracket, simple_kinds, counted_kinds, unary_operators, expression_kinds, global, colons, kw_ref, kw_out, kw_base}
use Rattle.cs_productions.specs.Tokens.{kind, sign, simple_of}
use Rattle.cs_productions.specs.Types.{global_type}
use Rattle.cs_productions.specs.Inner.{Inner}
use Rattle.cs_productions.specs.Calls.{postfixes, index_of}
use Rattle.cs_productions.specs.Primaries.{path_alone, called_path, indexed, behind_path, global_path, of_global, of_base, of_simple}
use Rattle.cs_productions.specs.Operators.{in_parentheses, closed_form, path_of, led_in, plain_in, lambda_in, form_in, of_paren, of_counted, of_plain, plain_operand, operand, signed, unary, plain_unary, conditional, form_led, rest_of_form, named_led, array_led, index_led, unnamed_led, path_led, name_led, lead}
use Rattle.cs_productions.specs.Levels.{forms_at, at}
use Rattle.cs_statements.specs.Kinds.{name_kinds, unnamed_kinds}
use Rattle.cs_statements.specs.Actions.{parenthesized, counted_primary, of_named, of_unnamed, primary}
use Rattle.cs_roundtrip_forms.specs.Standing.{Top, operands, primaries, top_at}
use Rattle.cs_roundtrip_forms.proofs.Opening.{else_derives, where_derives}

-- a unary expression begins with `global`, or doesn't
unary_split : (k : ℕ) (i : Inner) (ts : List Token) (a : Measured) (mid : List Token) → (unary k i).derives ts a mid → (of_global k i).derives ts a mid ⊎ (plain_unary k i).derives ts a mid
unary_split k i ts a mid d = go (nat_lt 0 k) d
  where
    go : (b : Bool) → (guarded kind b unary_operators (signed i) (operand k i)).derives ts a mid → (of_global k i).derives ts a mid ⊎ (guarded kind b unary_operators (signed i) (plain_operand k i)).derives ts a mid
    go true (inl e) = inr (inl e)
    go true (inr (inl e)) = inl e
    go true (inr (inr e)) = inr (inr e)
    go false (inl e) = inl e
    go false (inr e) = inr e

-- what stands behind a path in an expression stands behind it at the front of parentheses
path_leads : (k : ℕ) (i : Inner) (s : Spot) (texts : List (List ℕ)) (ts : List Token) (a : Measured) (mid : List Token) (m : Measured) (rest : List Token) → (behind_path k i s texts).derives ts a mid
    → (conditional k i a).derives mid m rest → (guarded kind (nat_lt 0 i.blocks) names (named_led (global_type s texts)) (unnamed_led k i s texts)).derives ts (form_led m) rest
path_leads k i s texts ts a mid m rest d c =
    else_derives (nat_lt 0 i.blocks) names (named_led (global_type s texts)) (unnamed_led k i s texts) ts (form_led m) rest (go (nat_lt 0 k) d)
  where
    alone : Measured
    alone = path_alone s texts

    go : (b : Bool) → (guarded kind b (paren ∷ []) (called_path k i s texts) (guarded kind b (bracket ∷ []) (indexed k i (path_alone s texts)) (gives (path_alone s texts)))).derives ts a mid
        → (either kind (bracket ∷ [])
        (bind (sign bracket) (λ _. guarded kind b expression_kinds (index_led k i (path_alone s texts)) (array_led i.blocks i.ranks (global_type s texts))))
        (bind (guarded kind b (paren ∷ []) (called_path k i s texts) (gives (path_alone s texts))) (rest_of_form k i))).derives ts (form_led m) rest
    go true (inl e) = inr (a, mid, inl e, (m, rest, c, (refl, refl)))
    go true (inr (inl e)) =
        let one = e.2 in
        let inside = one.3 in
        let close = inside.3 in
        let end = close.3 in
        let post = subst (λ us. (postfixes k i (index_of (path_alone s texts) inside.0)).derives us a mid) end.1 (subst (λ b. (postfixes k i b).derives e.1 a mid) end.0 e.3) in
        inl (tt, one.1, one.2, inl (inside.0, inside.1, inside.2, (tt, close.1, close.2, (a, mid, post, (m, rest, c, (refl, refl))))))
    go true (inr (inr e)) = inr (a, mid, inr e, (m, rest, c, (refl, refl)))
    go false e = inr (a, mid, e, (m, rest, c, (refl, refl)))

global_leads : (k : ℕ) (i : Inner) (ts : List Token) (a : Measured) (mid : List Token) (m : Measured) (rest : List Token) → (of_global k i).derives ts a mid → (conditional k i a).derives mid m rest
    → (lead k i).derives ts (form_led m) rest
global_leads k i ts a mid m rest d c = (d.0, d.1, d.2, go d.3)
  where
    go : (global_path k i d.0.spot).derives d.1 a mid ⊎ (postfixes k i d.0).derives d.1 a mid → (either kind (colons ∷ []) (path_led k i d.0.spot) (name_led k i d.0)).derives d.1 (form_led m) rest
    go (inl e) = inl (tt, e.1, e.2, (e.3.0, e.3.1, e.3.2, path_leads k i d.0.spot e.3.0 e.3.1 a mid m rest e.3.3 c))
    go (inr e) = inr (a, mid, e, (m, rest, c, (refl, refl)))

-- an expression in parentheses begins with `global`, or doesn't
whole_split : (k : ℕ) (i : Inner) (ts : List Token) (m : Measured) (rest : List Token) → (forms_at k i part.Whole).derives ts m rest
    → (lead k i).derives ts (form_led m) rest ⊎ (forms_at k i part.Plain).derives ts m rest
whole_split k i ts m rest d = elim (unary_split k i ts d.0 d.1 d.2) [
  | inl g ↦ inl (global_leads k i ts d.0 d.1 m rest g d.3)
  | inr p ↦ inr (d.0, d.1, p, d.3)
]

-- behind the parentheses no operand makes a cast of them
closed_derives : (n : ℕ) (inner : Inner) (s : Spot) (a : Measured) (o : Option TypeForm) (ts : List Token) (m : Measured) (rest : List Token)
    → (postfixes n inner (in_parentheses s a)).derives ts m rest → (closed_form n inner s a o).derives ts m rest
closed_derives n inner s a None ts m rest d = d
closed_derives n inner s a (Some t) ts m rest d = inr d

paren_in : (k : ℕ) (i : Inner) (ts : List Token) (m : Measured) (rest : List Token) → (parenthesized (suc k) (at k i)).derives ts m rest → (of_paren (suc k) (at k i)).derives ts m rest
paren_in k i ts m rest d = (
  d.0,
  d.1,
  d.2,
  else_derives (nat_lt 0 i.blocks) (unparen ∷ kw_ref ∷ kw_out ∷ []) (lambda_in (suc k) (at k i) d.0) (form_in (suc k) (at k i) d.0) d.1 m rest (inr (go (whole_split k i d.1 d.3.0 d.3.1 d.3.2))),
)
  where
    go : (lead k i).derives d.1 (form_led d.3.0) d.3.1 ⊎ (forms_at k i part.Plain).derives d.1 d.3.0 d.3.1
        → (either kind (global ∷ []) (led_in (suc k) (at k i) d.0) (plain_in (suc k) (at k i) d.0)).derives d.1 m rest
    go (inl l) =
        let close = d.3.3 in
        inl (form_led d.3.0, d.3.1, l, (tt, close.1, close.2, closed_derives (suc k) (at k i) d.0 d.3.0 (path_of d.3.0.form) close.1 m rest close.3))
    go (inr p) = inr (d.3.0, d.3.1, p, d.3.3)

-- primary expressions, by what they begin with

some : (k : ℕ) → nat_lt 0 (suc k) ≡ true
some k = grind arith

pub from_counted : (top : Top) (k : ℕ) (i : Inner) (ts : List Token) (m : Measured) (rest : List Token) → (counted_primary (suc k) (at k i)).derives ts m rest → (top_at top (suc k) (at k i)).derives ts m rest
from_counted operands k i ts m rest d =
    inr (where_derives (nat_lt 0 (suc k)) counted_kinds (of_counted (suc k) (at k i)) (of_plain (suc k) (at k i)) ts m rest (some k) (elim d [
      | inl e ↦ inl (paren_in k i ts m rest e)
      | inr e ↦ inr e
    ]))
from_counted primaries k i ts m rest d =
    inr (inr (where_derives (nat_lt 0 (suc k)) counted_kinds (counted_primary (suc k) (at k i)) (either kind (kw_base ∷ []) (of_base (suc k) (at k i)) (of_unnamed (suc k) (at k i))) ts m rest (some k) d))

pub from_paren : (k : ℕ) (i : Inner) (ts : List Token) (m : Measured) (rest : List Token) → (of_paren (suc k) i).derives ts m rest → (operand (suc k) i).derives ts m rest
from_paren k i ts m rest d = inr (where_derives (nat_lt 0 (suc k)) counted_kinds (of_counted (suc k) i) (of_plain (suc k) i) ts m rest (some k) (inl d))

pub from_global : (top : Top) (n : ℕ) (inner : Inner) (ts : List Token) (m : Measured) (rest : List Token) → (of_global n inner).derives ts m rest → (top_at top n inner).derives ts m rest
from_global operands n inner ts m rest d = inl d
from_global primaries n inner ts m rest d = inl d

plain_from : (n : ℕ) (inner : Inner) (ts : List Token) (m : Measured) (rest : List Token) → (of_plain n inner).derives ts m rest → (operand n inner).derives ts m rest
plain_from n inner ts m rest d = inr (else_derives (nat_lt 0 n) counted_kinds (of_counted n inner) (of_plain n inner) ts m rest d)

unnamed_from : (n : ℕ) (inner : Inner) (ts : List Token) (m : Measured) (rest : List Token) → (of_base n inner).derives ts m rest ⊎ (of_unnamed n inner).derives ts m rest → (primary n inner).derives ts m rest
unnamed_from n inner ts m rest d = inr (inr (else_derives (nat_lt 0 n) counted_kinds (counted_primary n inner) (either kind (kw_base ∷ []) (of_base n inner) (of_unnamed n inner)) ts m rest d))

pub from_base : (top : Top) (n : ℕ) (inner : Inner) (ts : List Token) (m : Measured) (rest : List Token) → (of_base n inner).derives ts m rest → (top_at top n inner).derives ts m rest
from_base operands n inner ts m rest d = plain_from n inner ts m rest (inl d)
from_base primaries n inner ts m rest d = unnamed_from n inner ts m rest (inl d)

has_parts : (xs ys : List ℕ) (k : ℕ) → has (xs ++ ys) k ≡ true → (has xs k ≡ true) ⊎ (has ys k ≡ true)
has_parts [] ys k h = inr h
has_parts (x ∷ xs) ys k h = go (x == k) refl h (has_parts xs ys k)
  where
    go : (b : Bool) → (x == k) ≡ b → (b || has (xs ++ ys) k) ≡ true → (has (xs ++ ys) k ≡ true → (has xs k ≡ true) ⊎ (has ys k ≡ true)) → ((x == k || has xs k) ≡ true) ⊎ (has ys k ≡ true)
    go true e h others = inl (ap (λ c. c || has xs k) e)
    go false e h others = elim (others h) [ inl g ↦ inl (ap (λ c. c || has xs k) e ∙ g) | inr g ↦ inr g ]

named_or_not : (n : ℕ) (inner : Inner) (ts : List Token) (a : Measured) (mid : List Token) (m : Measured) (rest : List Token) → TakesOne kind simple_kinds simple_of ts a mid
    → (postfixes n inner a).derives mid m rest → (of_named n inner).derives ts m rest ⊎ (of_unnamed n inner).derives ts m rest
named_or_not n inner [] a mid m rest d p = absurd d
named_or_not n inner (t ∷ ts) a mid m rest d p = elim (has_parts name_kinds unnamed_kinds (kind t) d.0) [
  | inl h ↦ inl (a, mid, (h, d.1, d.2), p)
  | inr h ↦ inr (a, mid, (h, d.1, d.2), p)
]

pub from_simple : (top : Top) (n : ℕ) (inner : Inner) (ts : List Token) (m : Measured) (rest : List Token) → (of_simple n inner).derives ts m rest → (top_at top n inner).derives ts m rest
from_simple operands n inner ts m rest d = plain_from n inner ts m rest (inr d)
from_simple primaries n inner ts m rest d = elim (named_or_not n inner ts d.0 d.1 m rest d.2 d.3) [
  | inl e ↦ inr (inl e)
  | inr e ↦ unnamed_from n inner ts m rest (inr e)
]
