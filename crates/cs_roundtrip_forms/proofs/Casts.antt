-- Casts and lambdas are read: what begins with a type in parentheses.
use Rattle.std.proofs.Common.{◌≡◌, inl, inr, ℕ, zero, suc, ◌+◌, ◌≤◌, ◌||◌, List, [], ◌∷◌, ◌++◌, Option, Some, refl, sym, ◌∙◌, ap, subst, nat_lt, codes, arith}
use Rattle.std.proofs.lemmas.List.{append-nil}
use Rattle.cs_token.specs.Placed.{Placed as Token}
use Rattle.cs_token.specs.declared.lexeme.Lexeme.TheVariants as lexeme
use Rattle.cs_tree.specs.declared.types.Spot.{Spot}
use Rattle.cs_tree.specs.declared.types.TypeName.{TypeName}
use Rattle.cs_tree.specs.declared.types.TypeName.TheVariants as type_name
use Rattle.cs_tree.specs.declared.types.TypeForm.{TypeForm}
use Rattle.cs_tree.specs.declared.forms.Form.{Form}
use Rattle.cs_tree.specs.declared.forms.Form.TheVariants as form
use Rattle.cs_tree.specs.declared.forms.Block.{Block}
use Rattle.cs_tree.specs.declared.forms.Action.TheOpen.{Form-F}
use Rattle.cs_tree.specs.declared.forms.Action.TheFolds.{fold-roll-Form}
use Rattle.cs_productions.specs.declared.values.Measured.{Measured}
use Rattle.cs_productions.specs.declared.values.Lead.{Lead}
use Rattle.cs_grammar.specs.Grammar.{Grammar, gives, either}
use Rattle.cs_productions.specs.Kinds.{names, paren, unparen, bracket, unbracket, question, global, colons, keyword_types, expression_kinds, kw_ref, kw_out}
use Rattle.cs_productions.specs.Tokens.{kind, spot_of}
use Rattle.cs_productions.specs.Types.{global_type, array_of}
use Rattle.cs_productions.specs.Inner.{Inner}
use Rattle.cs_productions.specs.Primaries.{path_alone, called_path, global_leaf}
use Rattle.cs_productions.specs.Operators.{casting, cast_of, path_layer, no_path, path_of, closed_form, closed, led_in, keyword_in, plain_in, lambda_from_type, lambda_in, form_in, of_paren, additive, shift, relational, equality, and, exclusive_or, inclusive_or, conditional_and, conditional_or, choosing, conditional, form_led, type_led, rest_of_form, named_led, index_led, bracket_led, called_led, unnamed_led, name_led, lead}
use Rattle.cs_productions.specs.Levels.{at, below}
use Rattle.cs_layout.specs.Pieces.{Piece, token}
use Rattle.cs_layout.specs.declared.fixed.Fixed.TheVariants as fixed_part
use Rattle.cs_layout.specs.Words as layout
use Rattle.cs_layout.specs.Words.{fixed}
use Rattle.cs_layout.specs.Layout.{form_shown}
use Rattle.cs_wellformed.specs.Words.{IsPath, IsTypeName, IsType}
use Rattle.cs_wellformed.specs.Standing.{levels_cast}
use Rattle.cs_wellformed.proofs.Shown.{shown_Cast}
use Rattle.cs_wellformed.proofs.Same.{same_Cast}
use Rattle.cs_roundtrip_types.specs.Spells.{lexemes, Spells}
use Rattle.cs_roundtrip_types.proofs.Spelling.{says_nothing, takes, says_then, says_made, says_so, says_like, says_in, says_first, says_second, says_else}
use Rattle.cs_roundtrip_types.proofs.Types.{IsNamed, same_type, says_path, says_keyword_type, says_ranks}
use Rattle.cs_roundtrip_forms.specs.Reading.{IsRead, Reads}
use Rattle.cs_roundtrip_forms.proofs.Opening.{else_derives}
use Rattle.cs_roundtrip_forms.proofs.Leading.{from_paren}
use Rattle.cs_roundtrip_forms.proofs.Reading.{at_shown, reads_low, Claim, says_enclosed, low_enough, ranks_are}
use Rattle.cs_roundtrip_forms.proofs.Operators.{or_left}

-- an expression goes on with nothing
nothing_behind : (k : ℕ) (i : Inner) (m : Measured) (ts : List Token) → (conditional k i m).derives ts m ts
nothing_behind k i m ts =
    (m, ts, or_none, else_derives (nat_lt m.height k) (question ∷ []) (choosing i m) (gives m) ts m ts (refl, refl))
  where
    add_none : (additive k i m).derives ts m ts
    add_none = (m, ts, (zero, (refl, refl)), (zero, (refl, refl)))

    shift_none : (shift k i m).derives ts m ts
    shift_none = (m, ts, add_none, (zero, (refl, refl)))

    relation_none : (relational k i m).derives ts m ts
    relation_none = (m, ts, shift_none, (zero, (refl, refl)))

    equal_none : (equality k i m).derives ts m ts
    equal_none = (m, ts, relation_none, (zero, (refl, refl)))

    and_none : (and k i m).derives ts m ts
    and_none = (m, ts, equal_none, (zero, (refl, refl)))

    xor_none : (exclusive_or k i m).derives ts m ts
    xor_none = (m, ts, and_none, (zero, (refl, refl)))

    bits_none : (inclusive_or k i m).derives ts m ts
    bits_none = (m, ts, xor_none, (zero, (refl, refl)))

    both_none : (conditional_and k i m).derives ts m ts
    both_none = (m, ts, bits_none, (zero, (refl, refl)))

    or_none : (conditional_or k i m).derives ts m ts
    or_none = (m, ts, both_none, (zero, (refl, refl)))

-- a path that is an expression is a type
path_of_global : (s : Spot) (texts : List (List ℕ)) → path_of (form.Global s texts) ≡ Some (global_type s texts)
path_of_global s texts =
    ap path_of (sym (form.rolls-Global s texts))
    ∙ fold-roll-Form (Option TypeForm) (Option TypeForm) (Option TypeForm) (Option TypeForm) (Option TypeForm) (Option TypeForm) (Option TypeForm) no_path path_layer no_path no_path no_path no_path no_path (Form-F.Global s texts)

-- what begins with `global` inside parentheses and is a type: a path alone, or a path with brackets
pub data IsLed (texts : List (List ℕ)) (r : ℕ) (l : Lead) : Type 0 where
  alone : (s : Spot) → r ≡ 0 → l ≡ form_led (path_alone s texts) → IsLed texts r l
  ranked : (u : TypeForm) → IsNamed (type_name.Global texts) r u → l ≡ type_led u → IsLed texts r l

form_led_nothing : (k : ℕ) (i : Inner) (m : Measured) → Spells (rest_of_form k i m) [] (λ l. l ≡ form_led m)
form_led_nothing k i m =
    says_in {g = gives (form_led m)} (λ ts l rest p d. (m, ts, nothing_behind k i m ts, (d.0, d.1))) (says_nothing (form_led m) refl)

led_ranks : (k : ℕ) (i : Inner) (s : Spot) (texts : List (List ℕ)) (r : ℕ) → r ≤ i.ranks → Spells (unnamed_led k i s texts) (layout.ranks r) (IsLed texts r)
unfolding fixed
led_ranks k i s texts zero l =
    says_second (bracket ∷ []) (bracket_led k i s texts)
    (says_then {ps = []} (says_else (nat_lt 0 k) (paren ∷ []) (called_path k i s texts) (says_nothing {P = λ m. m ≡ path_alone s texts} (path_alone s texts) refl))
    (λ m e. says_so (form_led_nothing k i m) (λ l d. alone s refl (d ∙ ap form_led e))))
led_ranks k i s texts (suc r) l =
    says_first (bracket ∷ []) (called_led k i s texts)
    (takes (bracket ∷ []) (λ _. tt) (lexeme.Sign 4) refl
    (λ _ _. says_else (nat_lt 0 k) expression_kinds (index_led k i (path_alone s texts))
    (takes (unbracket ∷ []) (λ _. tt) (lexeme.Sign 5) refl
    (λ _ _. says_like
    (says_then (says_ranks i.ranks (type_name.Global texts) 1 r (array_of (global_type s texts)) (refl, refl) (omega (arith, l)))
    (λ u h. says_else (nat_lt 0 i.blocks) names (named_led u) (says_nothing (type_led u) (ranked u (h.0, h.1 ∙ omega arith) refl))))
    (ap lexemes (sym (append-nil (layout.ranks r))))))))

says_led : (k : ℕ) (i : Inner) (texts : List (List ℕ)) (r : ℕ) → IsPath texts → r ≤ i.ranks → Spells (lead k i) ((fixed fixed_part.Global ++ layout.path texts) ++ layout.ranks r) (IsLed texts r)
unfolding fixed
says_led k i texts r h l =
    takes (global ∷ []) global_leaf (lexeme.Name (codes "global")) refl
    (λ t _. says_first (colons ∷ []) (name_led k i (global_leaf t))
    (takes (colons ∷ []) (λ _. tt) (lexeme.Sign 33) refl
    (λ _ _. says_then (says_path texts h)
    (λ path_names e. says_else (nat_lt 0 i.blocks) names (named_led (global_type (spot_of t) path_names))
    (subst (λ z. Spells (unnamed_led k i (spot_of t) z) (layout.ranks r) (IsLed texts r)) (sym e) (led_ranks k i (spot_of t) texts r l))))))

-- behind such a type, an operand makes a cast
says_closed : (n : ℕ) (inner : Inner) (s : Spot) (texts : List (List ℕ)) (r : ℕ) (l : Lead) (ps : List Piece) (Q : Measured → Type 0) → IsLed texts r l
    → ((u : TypeForm) → IsNamed (type_name.Global texts) r u → Spells (casting inner s u) ps Q) → Spells (closed n inner s l) (token (lexeme.Sign 3) ∷ ps) Q
says_closed n inner s texts r l ps Q (alone at none e) x =
    subst (λ z. Spells (closed n inner s z) (token (lexeme.Sign 3) ∷ ps) Q) (sym e)
    (takes (unparen ∷ []) (λ _. tt) (lexeme.Sign 3) refl
    (λ _ _. subst (λ o. Spells (closed_form n inner s (path_alone at texts) o) ps Q) (sym (path_of_global at texts))
    (says_in {g = casting inner s (global_type at texts)} (λ ts m rest q d. inl d) (x (global_type at texts) (refl, sym none)))))
says_closed n inner s texts r l ps Q (ranked u h e) x =
    subst (λ z. Spells (closed n inner s z) (token (lexeme.Sign 3) ∷ ps) Q) (sym e)
    (takes (unparen ∷ []) (λ _. tt) (lexeme.Sign 3) refl (λ _ _. x u h))

-- a type in parentheses and what it makes of what stands behind
says_form_in : (n : ℕ) (i : Inner) (s : Spot) (x : TypeName) (r : ℕ) (ps : List Piece) (Q : Measured → Type 0) → IsTypeName x → r ≤ i.ranks
    → ((u : TypeForm) → IsNamed x r u → Spells (casting (at n i) s u) ps Q) → Spells (form_in (suc n) (at n i) s) ((layout.type_without_ranks x ++ layout.ranks r) ++ (token (lexeme.Sign 3) ∷ ps)) Q
says_form_in n i s (type_name.Keyword k) r ps Q h l y =
    says_first keyword_types (either kind (global ∷ []) (led_in (suc n) (at n i) s) (plain_in (suc n) (at n i) s))
    (says_then (says_then (says_keyword_type k) (λ t p. says_so (says_ranks i.ranks (type_name.Keyword k) 0 r t p (omega (arith, l))) (λ u q. (q.0, q.1 ∙ omega arith))))
    (λ u p. says_else (nat_lt 0 i.blocks) names (lambda_from_type (suc n) (at n i) s u) (takes (unparen ∷ []) (λ _. tt) (lexeme.Sign 3) refl (λ _ _. y u p))))
says_form_in n i s (type_name.Global texts) r ps Q h l y =
    says_second keyword_types (keyword_in (suc n) (at n i) s)
    (says_first (global ∷ []) (plain_in (suc n) (at n i) s)
    (says_then (says_led n i texts r h l) (λ d p. says_closed (suc n) (at n i) s texts r d ps Q p y)))

module _ (block : Grammar Token Block) (blocks limit : ℕ) where
  pub reads_cast : (n : ℕ) (margin : List ℕ) (s : Spot) (t : TypeForm) (a : Form) (h : ℕ) → IsType limit t → Claim block blocks limit a h → levels_cast a h + 1 ≤ suc n
      → Reads (suc n) (below block blocks limit (suc n)) (form.Cast s t a) (levels_cast a h + 1) ((form_shown (form.Cast s t a)).pieces margin)
  unfolding fixed
  reads_cast n margin s t a h known claim l =
      at_shown margin _ (shown_Cast s t a)
      (reads_low 12 (ap (λ z. z.level) (shown_Cast s t a)) (inr (omega arith)) (omega arith)
      (says_in {g = of_paren (suc n) (at n (below block blocks limit n))} (λ ts m rest q d. from_paren n (at n (below block blocks limit n)) ts m rest d)
      (takes (paren ∷ []) spot_of (lexeme.Sign 2) refl
      (λ u _. says_else (nat_lt 0 (below block blocks limit n).blocks) (unparen ∷ kw_ref ∷ kw_out ∷ []) (lambda_in (suc n) (at n (below block blocks limit n)) (spot_of u))
      (says_form_in n (below block blocks limit n) (spot_of u) t.name t.ranks _ (IsRead (form.Cast s t a) (levels_cast a h + 1)) known.0 (omega (arith, known.1, ranks_are block blocks limit n))
      (λ v q. says_made (cast_of (spot_of u) v)
      (says_enclosed block blocks limit (nat_lt (form_shown a).level 12 || (form_shown a).is_lambda) 12 n a h margin claim (omega (arith, l))
      (λ f. low_enough block blocks limit (form_shown a).level 12 (or_left (nat_lt (form_shown a).level 12) (form_shown a).is_lambda f)) (omega arith))
      (λ b p. record { same = same_Cast (spot_of u) s v t b.form a (same_type t v q) p.same; tall = ap (λ j. j + 1) p.tall })))))))
