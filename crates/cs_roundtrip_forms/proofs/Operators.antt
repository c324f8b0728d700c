-- Operators are read.
use Rattle.std.proofs.Common.{◌≡◌, inl, inr, ℕ, suc, ◌+◌, ◌≤◌, ◌<◌, ◌==◌, ◌||◌, ◌&&◌, max, Bool, true, false, cond, List, [], ◌∷◌, ◌++◌, refl, ◌∙◌, ap, nat_lt, arith}
use Rattle.cs_token.specs.Placed.{Placed as Token}
use Rattle.cs_token.specs.Tokens.{kind_of}
use Rattle.cs_token.specs.declared.lexeme.Lexeme.TheVariants as lexeme
use Rattle.cs_tree.specs.declared.types.Spot.{Spot}
use Rattle.cs_tree.specs.declared.types.TypeForm.{TypeForm}
use Rattle.cs_tree.specs.declared.forms.UnaryOp.{UnaryOp}
use Rattle.cs_tree.specs.declared.forms.UnaryOp.TheVariants as unary_op
use Rattle.cs_tree.specs.declared.forms.BinaryOp.{BinaryOp}
use Rattle.cs_tree.specs.declared.forms.BinaryOp.TheVariants as binary_op
use Rattle.cs_tree.specs.declared.forms.Form.{Form}
use Rattle.cs_tree.specs.declared.forms.Form.TheVariants as form
use Rattle.cs_tree.specs.declared.forms.Block.{Block}
use Rattle.cs_tree.specs.Bare.{bare_form}
use Rattle.cs_productions.specs.declared.values.Measured.{Measured}
use Rattle.cs_productions.specs.declared.values.Part.{Part}
use Rattle.cs_productions.specs.declared.values.Part.TheVariants as part
use Rattle.cs_grammar.specs.Kinds.{has}
use Rattle.cs_grammar.specs.Grammar.{Grammar, gives, turns}
use Rattle.cs_productions.specs.Kinds.{question, colon, unary_operators, multiplicative_operators, additive_operators, shift_operators, comparisons, type_tests, relational_operators, equality_operators, amp, caret, bar, both, either_one, kw_is}
use Rattle.cs_productions.specs.Tokens.{kind, spot_of, unary_of, binary_of}
use Rattle.cs_productions.specs.Inner.{Inner}
use Rattle.cs_productions.specs.Operators.{operand, signed_of, binary_form, one_binary, test_form, one_test, one_relation, conditional_of, choosing}
use Rattle.cs_productions.specs.Levels.{forms_at, below}
use Rattle.cs_layout.specs.Pieces.{Piece}
use Rattle.cs_layout.specs.declared.fixed.Fixed.TheVariants as fixed_part
use Rattle.cs_layout.specs.Words as layout
use Rattle.cs_layout.specs.Words.{fixed, unary_sign, unary_pieces, binary_sign, binary_pieces, binary_level}
use Rattle.cs_layout.specs.Layout.{form_shown, at_least, is_minus_op}
use Rattle.cs_wellformed.specs.Words.{IsType}
use Rattle.cs_wellformed.specs.Standing.{levels_at_least, levels_signed}
use Rattle.cs_wellformed.proofs.Shown.{shown_Unary, shown_Binary, shown_Is, shown_As, shown_Conditional}
use Rattle.cs_wellformed.proofs.Same.{same_Unary, same_Binary, same_Is, same_As, same_Conditional}
use Rattle.cs_roundtrip_types.specs.Spells.{Spells}
use Rattle.cs_roundtrip_types.proofs.Spelling.{skips, takes, says_then, says_made, says_first, says_second, says_where}
use Rattle.cs_roundtrip_types.proofs.Types.{same_type}
use Rattle.cs_roundtrip_forms.specs.Standing.{Opens, standing, rounds}
use Rattle.cs_roundtrip_forms.specs.Reading.{IsRead, Reads}
use Rattle.cs_roundtrip_forms.proofs.Opening.{opens_round, opens_level, says_behind, where_derives}
use Rattle.cs_roundtrip_forms.proofs.Reading.{at_shown, reads_low, reads_level, whole, Claim, says_enclosed, says_at_least, opens_at_least, low_enough}
use Rattle.cs_roundtrip_forms.proofs.Primaries.{room, some, says_type_in}

-- the tokens of operators

unary_kind : (o : UnaryOp) → has unary_operators (kind_of (lexeme.Sign (unary_sign o))) ≡ true
unary_kind unary_op.Not = refl
unary_kind unary_op.Complement = refl
unary_kind unary_op.Minus = refl

unary_is : (o : UnaryOp) → unary_of (kind_of (lexeme.Sign (unary_sign o))) ≡ o
unary_is unary_op.Not = refl
unary_is unary_op.Complement = refl
unary_is unary_op.Minus = refl

binary_is : (o : BinaryOp) → binary_of (kind_of (lexeme.Sign (binary_sign o))) ≡ o
binary_is binary_op.Or = refl
binary_is binary_op.And = refl
binary_is binary_op.BitOr = refl
binary_is binary_op.BitXor = refl
binary_is binary_op.BitAnd = refl
binary_is binary_op.Equal = refl
binary_is binary_op.Unequal = refl
binary_is binary_op.Less = refl
binary_is binary_op.Greater = refl
binary_is binary_op.AtMost = refl
binary_is binary_op.AtLeast = refl
binary_is binary_op.ShiftLeft = refl
binary_is binary_op.ShiftRight = refl
binary_is binary_op.Add = refl
binary_is binary_op.Sub = refl
binary_is binary_op.Mul = refl
binary_is binary_op.Div = refl
binary_is binary_op.Rem = refl

pub or_left : (a b : Bool) → (a || b) ≡ false → a ≡ false
or_left true b e = e
or_left false b e = refl

says_operator : (inner : Inner) (ops : List ℕ) (right : Part) (s : Spot) (o : BinaryOp) (l r : Form) (h k : ℕ) (ps : List Piece) (m : Measured) → has ops (kind_of (lexeme.Sign (binary_sign o))) ≡ true
    → IsRead l h m → Spells (inner.forms right) ps (IsRead r k) → Spells (one_binary inner ops right m) (binary_pieces o ++ ps) (IsRead (form.Binary s o l r) (max h k + 1))
unfolding binary_pieces
says_operator inner ops right s o l r h k ps m is p x =
    skips (32 ∷ [])
    (takes ops kind (lexeme.Sign (binary_sign o)) is
    (λ t e. skips (32 ∷ [])
    (says_made (binary_form m (kind t)) x
    (λ b q. record {
      same = ap (λ z. bare_form (form.Binary m.spot (binary_of (kind_of z)) m.form b.form)) e
          ∙ (ap (λ z. bare_form (form.Binary m.spot z m.form b.form)) (binary_is o) ∙ same_Binary m.spot s o m.form l b.form r p.same q.same);
      tall = omega (arith, p.tall, q.tall);
    }))))

module _ (block : Grammar Token Block) (blocks limit : ℕ) where
  pub reads_unary : (n : ℕ) (margin : List ℕ) (s : Spot) (o : UnaryOp) (a : Form) (h : ℕ) → Claim block blocks limit a h → levels_signed o a h + 1 ≤ suc n
      → Reads (suc n) (below block blocks limit (suc n)) (form.Unary s o a) (levels_signed o a h + 1) ((form_shown (form.Unary s o a)).pieces margin)
  unfolding unary_pieces
  reads_unary n margin s o a h claim l =
      at_shown margin _ (shown_Unary s o a)
      (reads_low 11 (ap (λ z. z.level) (shown_Unary s o a)) (inr (omega arith)) (omega arith)
      (says_where (nat_lt 0 (suc n)) unary_operators (operand (suc n) (below block blocks limit (suc n))) (some block blocks limit n)
      (takes unary_operators (λ t. t) (lexeme.Sign (unary_sign o)) (unary_kind o)
      (λ t e. says_made (signed_of t)
      (says_enclosed block blocks limit (nat_lt (form_shown a).level 11 || is_minus_op o && (form_shown a).is_minus) 11 n a h margin claim (omega (arith, l))
      (λ f. low_enough block blocks limit (form_shown a).level 11 (or_left (nat_lt (form_shown a).level 11) (is_minus_op o && (form_shown a).is_minus) f)) (omega arith))
      (λ b p. record {
        same = ap (λ z. bare_form (form.Unary (spot_of t) (unary_of (kind_of z)) b.form)) e
            ∙ (ap (λ z. bare_form (form.Unary (spot_of t) z b.form)) (unary_is o) ∙ same_Unary (spot_of t) s o b.form a p.same);
        tall = ap (λ j. j + 1) p.tall;
      })))))

  -- one more operator of a level, and one of a relation
  one_more : (n : ℕ) (ops : List ℕ) (right : Part) (g : Grammar Token Measured) (s : Spot) (o : BinaryOp) (l r : Form) (h k : ℕ) (ps qs : List Piece)
      → has ops (kind_of (lexeme.Sign (binary_sign o))) ≡ true → h ≤ n
      → Opens (turns kind ops (λ b. nat_lt b.height (suc n)) (one_binary (below block blocks limit (suc n)) ops right)) g ps (IsRead l h)
      → Spells (forms_at n (below block blocks limit n) right) qs (IsRead r k)
      → Opens (turns kind ops (λ b. nat_lt b.height (suc n)) (one_binary (below block blocks limit (suc n)) ops right)) g (ps ++ (binary_pieces o ++ qs)) (IsRead (form.Binary s o l r) (max h k + 1))
  one_more n ops right g s o l r h k ps qs is low x y =
      opens_round ops (λ b. nat_lt b.height (suc n)) (one_binary (below block blocks limit (suc n)) ops right) x
      (λ m p. room m.height (suc n) h p.tall (omega (arith, low)))
      (λ m p. says_operator (below block blocks limit (suc n)) ops right s o l r h k qs m is p y)

  one_more_relation : (n : ℕ) (g : Grammar Token Measured) (s : Spot) (o : BinaryOp) (l r : Form) (h k : ℕ) (ps qs : List Piece)
      → has comparisons (kind_of (lexeme.Sign (binary_sign o))) ≡ true → h ≤ n
      → Opens (turns kind relational_operators (λ b. nat_lt b.height (suc n)) (one_relation (below block blocks limit (suc n)))) g ps (IsRead l h)
      → Spells (forms_at n (below block blocks limit n) part.Shift) qs (IsRead r k)
      → Opens (turns kind relational_operators (λ b. nat_lt b.height (suc n)) (one_relation (below block blocks limit (suc n)))) g (ps ++ (binary_pieces o ++ qs)) (IsRead (form.Binary s o l r) (max h k + 1))
  one_more_relation n g s o l r h k ps qs is low x y =
      opens_round relational_operators (λ b. nat_lt b.height (suc n)) (one_relation (below block blocks limit (suc n))) x
      (λ m p. room m.height (suc n) h p.tall (omega (arith, low)))
      (λ m p. says_second type_tests (one_test (below block blocks limit (suc n)) m) (says_operator (below block blocks limit (suc n)) comparisons part.Shift s o l r h k qs m is p y))

  opens_binary : (n : ℕ) (margin : List ℕ) (s : Spot) (o : BinaryOp) (l r : Form) (h k : ℕ) → Claim block blocks limit l h → Claim block blocks limit r k
      → levels_at_least (binary_level o) l h ≤ n → levels_at_least (binary_level o + 1) r k ≤ n
      → Opens (rounds (binary_level o) (suc n) (below block blocks limit (suc n))) (standing (binary_level o) (suc n) (below block blocks limit (suc n)))
      (at_least (binary_level o) (form_shown l) margin ++ (binary_pieces o ++ at_least (binary_level o + 1) (form_shown r) margin))
      (IsRead (form.Binary s o l r) (max (levels_at_least (binary_level o) l h) (levels_at_least (binary_level o + 1) r k) + 1))
  opens_binary n margin s binary_op.Or l r h k x y low high =
      one_more n (either_one ∷ []) part.ConditionalAnd (standing 1 (suc n) (below block blocks limit (suc n))) s binary_op.Or l r (levels_at_least 1 l h) (levels_at_least 2 r k)
      (at_least 1 (form_shown l) margin) (at_least 2 (form_shown r) margin) refl low
      (opens_at_least block blocks limit 1 (suc n) l h margin x (omega (arith, low)) (omega arith) (omega arith)) (says_at_least block blocks limit 2 n r k margin y high (omega arith))
  opens_binary n margin s binary_op.And l r h k x y low high =
      one_more n (both ∷ []) part.InclusiveOr (standing 2 (suc n) (below block blocks limit (suc n))) s binary_op.And l r (levels_at_least 2 l h) (levels_at_least 3 r k)
      (at_least 2 (form_shown l) margin) (at_least 3 (form_shown r) margin) refl low
      (opens_at_least block blocks limit 2 (suc n) l h margin x (omega (arith, low)) (omega arith) (omega arith)) (says_at_least block blocks limit 3 n r k margin y high (omega arith))
  opens_binary n margin s binary_op.BitOr l r h k x y low high =
      one_more n (bar ∷ []) part.ExclusiveOr (standing 3 (suc n) (below block blocks limit (suc n))) s binary_op.BitOr l r (levels_at_least 3 l h) (levels_at_least 4 r k)
      (at_least 3 (form_shown l) margin) (at_least 4 (form_shown r) margin) refl low
      (opens_at_least block blocks limit 3 (suc n) l h margin x (omega (arith, low)) (omega arith) (omega arith)) (says_at_least block blocks limit 4 n r k margin y high (omega arith))
  opens_binary n margin s binary_op.BitXor l r h k x y low high =
      one_more n (caret ∷ []) part.And (standing 4 (suc n) (below block blocks limit (suc n))) s binary_op.BitXor l r (levels_at_least 4 l h) (levels_at_least 5 r k)
      (at_least 4 (form_shown l) margin) (at_least 5 (form_shown r) margin) refl low
      (opens_at_least block blocks limit 4 (suc n) l h margin x (omega (arith, low)) (omega arith) (omega arith)) (says_at_least block blocks limit 5 n r k margin y high (omega arith))
  opens_binary n margin s binary_op.BitAnd l r h k x y low high =
      one_more n (amp ∷ []) part.Equality (standing 5 (suc n) (below block blocks limit (suc n))) s binary_op.BitAnd l r (levels_at_least 5 l h) (levels_at_least 6 r k)
      (at_least 5 (form_shown l) margin) (at_least 6 (form_shown r) margin) refl low
      (opens_at_least block blocks limit 5 (suc n) l h margin x (omega (arith, low)) (omega arith) (omega arith)) (says_at_least block blocks limit 6 n r k margin y high (omega arith))
  opens_binary n margin s binary_op.Equal l r h k x y low high =
      one_more n equality_operators part.Relational (standing 6 (suc n) (below block blocks limit (suc n))) s binary_op.Equal l r (levels_at_least 6 l h) (levels_at_least 7 r k)
      (at_least 6 (form_shown l) margin) (at_least 7 (form_shown r) margin) refl low
      (opens_at_least block blocks limit 6 (suc n) l h margin x (omega (arith, low)) (omega arith) (omega arith)) (says_at_least block blocks limit 7 n r k margin y high (omega arith))
  opens_binary n margin s binary_op.Unequal l r h k x y low high =
      one_more n equality_operators part.Relational (standing 6 (suc n) (below block blocks limit (suc n))) s binary_op.Unequal l r (levels_at_least 6 l h) (levels_at_least 7 r k)
      (at_least 6 (form_shown l) margin) (at_least 7 (form_shown r) margin) refl low
      (opens_at_least block blocks limit 6 (suc n) l h margin x (omega (arith, low)) (omega arith) (omega arith)) (says_at_least block blocks limit 7 n r k margin y high (omega arith))
  opens_binary n margin s binary_op.Less l r h k x y low high =
      one_more_relation n (standing 7 (suc n) (below block blocks limit (suc n))) s binary_op.Less l r (levels_at_least 7 l h) (levels_at_least 8 r k)
      (at_least 7 (form_shown l) margin) (at_least 8 (form_shown r) margin) refl low
      (opens_at_least block blocks limit 7 (suc n) l h margin x (omega (arith, low)) (omega arith) (omega arith)) (says_at_least block blocks limit 8 n r k margin y high (omega arith))
  opens_binary n margin s binary_op.Greater l r h k x y low high =
      one_more_relation n (standing 7 (suc n) (below block blocks limit (suc n))) s binary_op.Greater l r (levels_at_least 7 l h) (levels_at_least 8 r k)
      (at_least 7 (form_shown l) margin) (at_least 8 (form_shown r) margin) refl low
      (opens_at_least block blocks limit 7 (suc n) l h margin x (omega (arith, low)) (omega arith) (omega arith)) (says_at_least block blocks limit 8 n r k margin y high (omega arith))
  opens_binary n margin s binary_op.AtMost l r h k x y low high =
      one_more_relation n (standing 7 (suc n) (below block blocks limit (suc n))) s binary_op.AtMost l r (levels_at_least 7 l h) (levels_at_least 8 r k)
      (at_least 7 (form_shown l) margin) (at_least 8 (form_shown r) margin) refl low
      (opens_at_least block blocks limit 7 (suc n) l h margin x (omega (arith, low)) (omega arith) (omega arith)) (says_at_least block blocks limit 8 n r k margin y high (omega arith))
  opens_binary n margin s binary_op.AtLeast l r h k x y low high =
      one_more_relation n (standing 7 (suc n) (below block blocks limit (suc n))) s binary_op.AtLeast l r (levels_at_least 7 l h) (levels_at_least 8 r k)
      (at_least 7 (form_shown l) margin) (at_least 8 (form_shown r) margin) refl low
      (opens_at_least block blocks limit 7 (suc n) l h margin x (omega (arith, low)) (omega arith) (omega arith)) (says_at_least block blocks limit 8 n r k margin y high (omega arith))
  opens_binary n margin s binary_op.ShiftLeft l r h k x y low high =
      one_more n shift_operators part.Additive (standing 8 (suc n) (below block blocks limit (suc n))) s binary_op.ShiftLeft l r (levels_at_least 8 l h) (levels_at_least 9 r k)
      (at_least 8 (form_shown l) margin) (at_least 9 (form_shown r) margin) refl low
      (opens_at_least block blocks limit 8 (suc n) l h margin x (omega (arith, low)) (omega arith) (omega arith)) (says_at_least block blocks limit 9 n r k margin y high (omega arith))
  opens_binary n margin s binary_op.ShiftRight l r h k x y low high =
      one_more n shift_operators part.Additive (standing 8 (suc n) (below block blocks limit (suc n))) s binary_op.ShiftRight l r (levels_at_least 8 l h) (levels_at_least 9 r k)
      (at_least 8 (form_shown l) margin) (at_least 9 (form_shown r) margin) refl low
      (opens_at_least block blocks limit 8 (suc n) l h margin x (omega (arith, low)) (omega arith) (omega arith)) (says_at_least block blocks limit 9 n r k margin y high (omega arith))
  opens_binary n margin s binary_op.Add l r h k x y low high =
      one_more n additive_operators part.Multiplicative (standing 9 (suc n) (below block blocks limit (suc n))) s binary_op.Add l r (levels_at_least 9 l h) (levels_at_least 10 r k)
      (at_least 9 (form_shown l) margin) (at_least 10 (form_shown r) margin) refl low
      (opens_at_least block blocks limit 9 (suc n) l h margin x (omega (arith, low)) (omega arith) (omega arith)) (says_at_least block blocks limit 10 n r k margin y high (omega arith))
  opens_binary n margin s binary_op.Sub l r h k x y low high =
      one_more n additive_operators part.Multiplicative (standing 9 (suc n) (below block blocks limit (suc n))) s binary_op.Sub l r (levels_at_least 9 l h) (levels_at_least 10 r k)
      (at_least 9 (form_shown l) margin) (at_least 10 (form_shown r) margin) refl low
      (opens_at_least block blocks limit 9 (suc n) l h margin x (omega (arith, low)) (omega arith) (omega arith)) (says_at_least block blocks limit 10 n r k margin y high (omega arith))
  opens_binary n margin s binary_op.Mul l r h k x y low high =
      one_more n multiplicative_operators part.Unary (standing 10 (suc n) (below block blocks limit (suc n))) s binary_op.Mul l r (levels_at_least 10 l h) (levels_at_least 11 r k)
      (at_least 10 (form_shown l) margin) (at_least 11 (form_shown r) margin) refl low
      (opens_at_least block blocks limit 10 (suc n) l h margin x (omega (arith, low)) (omega arith) (omega arith)) (says_at_least block blocks limit 11 n r k margin y high (omega arith))
  opens_binary n margin s binary_op.Div l r h k x y low high =
      one_more n multiplicative_operators part.Unary (standing 10 (suc n) (below block blocks limit (suc n))) s binary_op.Div l r (levels_at_least 10 l h) (levels_at_least 11 r k)
      (at_least 10 (form_shown l) margin) (at_least 11 (form_shown r) margin) refl low
      (opens_at_least block blocks limit 10 (suc n) l h margin x (omega (arith, low)) (omega arith) (omega arith)) (says_at_least block blocks limit 11 n r k margin y high (omega arith))
  opens_binary n margin s binary_op.Rem l r h k x y low high =
      one_more n multiplicative_operators part.Unary (standing 10 (suc n) (below block blocks limit (suc n))) s binary_op.Rem l r (levels_at_least 10 l h) (levels_at_least 11 r k)
      (at_least 10 (form_shown l) margin) (at_least 11 (form_shown r) margin) refl low
      (opens_at_least block blocks limit 10 (suc n) l h margin x (omega (arith, low)) (omega arith) (omega arith)) (says_at_least block blocks limit 11 n r k margin y high (omega arith))

  level_low : (o : BinaryOp) → binary_level o < 13
  level_low binary_op.Or = omega arith
  level_low binary_op.And = omega arith
  level_low binary_op.BitOr = omega arith
  level_low binary_op.BitXor = omega arith
  level_low binary_op.BitAnd = omega arith
  level_low binary_op.Equal = omega arith
  level_low binary_op.Unequal = omega arith
  level_low binary_op.Less = omega arith
  level_low binary_op.Greater = omega arith
  level_low binary_op.AtMost = omega arith
  level_low binary_op.AtLeast = omega arith
  level_low binary_op.ShiftLeft = omega arith
  level_low binary_op.ShiftRight = omega arith
  level_low binary_op.Add = omega arith
  level_low binary_op.Sub = omega arith
  level_low binary_op.Mul = omega arith
  level_low binary_op.Div = omega arith
  level_low binary_op.Rem = omega arith

  pub reads_binary : (n : ℕ) (margin : List ℕ) (s : Spot) (o : BinaryOp) (l r : Form) (h k : ℕ) → Claim block blocks limit l h → Claim block blocks limit r k
      → max (levels_at_least (binary_level o) l h) (levels_at_least (binary_level o + 1) r k) + 1 ≤ suc n
      → Reads (suc n) (below block blocks limit (suc n)) (form.Binary s o l r) (max (levels_at_least (binary_level o) l h) (levels_at_least (binary_level o + 1) r k) + 1)
      ((form_shown (form.Binary s o l r)).pieces margin)
  reads_binary n margin s o l r h k x y fits =
      at_shown margin _ (shown_Binary s o l r)
      (reads_level (binary_level o) (ap (λ z. z.level) (shown_Binary s o l r)) (level_low o)
      (opens_binary n margin s o l r h k x y (omega (arith, fits)) (omega (arith, fits))))

  -- tests of types

  says_is : (n : ℕ) (s : Spot) (a : Form) (t : TypeForm) (h : ℕ) (m : Measured) → IsType limit t → IsRead a h m
      → Spells (one_test (below block blocks limit n) m) (fixed fixed_part.Is ++ layout.type_pieces t) (IsRead (form.Is s a t) (h + 1))
  unfolding fixed
  says_is n s a t h m known p =
      skips (32 ∷ [])
      (takes type_tests kind (lexeme.Keyword 36) refl
      (λ u e. skips (32 ∷ [])
      (says_made (test_form m (kind u)) (says_type_in block blocks limit n t known)
      (λ v q. record {
        same = ap (λ z. bare_form (cond (kind_of z == kw_is) (form.Is m.spot m.form v) (form.As m.spot m.form v))) e ∙ same_Is m.spot s m.form a v t p.same (same_type t v q);
        tall = ap (λ j. j + 1) p.tall;
      }))))

  says_as : (n : ℕ) (s : Spot) (a : Form) (t : TypeForm) (h : ℕ) (m : Measured) → IsType limit t → IsRead a h m
      → Spells (one_test (below block blocks limit n) m) (fixed fixed_part.As ++ layout.type_pieces t) (IsRead (form.As s a t) (h + 1))
  unfolding fixed
  says_as n s a t h m known p =
      skips (32 ∷ [])
      (takes type_tests kind (lexeme.Keyword 1) refl
      (λ u e. skips (32 ∷ [])
      (says_made (test_form m (kind u)) (says_type_in block blocks limit n t known)
      (λ v q. record {
        same = ap (λ z. bare_form (cond (kind_of z == kw_is) (form.Is m.spot m.form v) (form.As m.spot m.form v))) e ∙ same_As m.spot s m.form a v t p.same (same_type t v q);
        tall = ap (λ j. j + 1) p.tall;
      }))))

  pub reads_is : (n : ℕ) (margin : List ℕ) (s : Spot) (a : Form) (t : TypeForm) (h : ℕ) → Claim block blocks limit a h → IsType limit t → levels_at_least 7 a h + 1 ≤ suc n
      → Reads (suc n) (below block blocks limit (suc n)) (form.Is s a t) (levels_at_least 7 a h + 1) ((form_shown (form.Is s a t)).pieces margin)
  reads_is n margin s a t h x known fits =
      at_shown margin _ (shown_Is s a t)
      (reads_level 7 (ap (λ z. z.level) (shown_Is s a t)) (omega arith)
      (opens_round relational_operators (λ b. nat_lt b.height (suc n)) (one_relation (below block blocks limit (suc n)))
      (opens_at_least block blocks limit 7 (suc n) a h margin x (omega (arith, fits)) (omega arith) (omega arith))
      (λ m p. room m.height (suc n) (levels_at_least 7 a h) p.tall fits)
      (λ m p. says_first type_tests (one_binary (below block blocks limit (suc n)) comparisons part.Shift m) (says_is (suc n) s a t (levels_at_least 7 a h) m known p))))

  pub reads_as : (n : ℕ) (margin : List ℕ) (s : Spot) (a : Form) (t : TypeForm) (h : ℕ) → Claim block blocks limit a h → IsType limit t → levels_at_least 7 a h + 1 ≤ suc n
      → Reads (suc n) (below block blocks limit (suc n)) (form.As s a t) (levels_at_least 7 a h + 1) ((form_shown (form.As s a t)).pieces margin)
  reads_as n margin s a t h x known fits =
      at_shown margin _ (shown_As s a t)
      (reads_level 7 (ap (λ z. z.level) (shown_As s a t)) (omega arith)
      (opens_round relational_operators (λ b. nat_lt b.height (suc n)) (one_relation (below block blocks limit (suc n)))
      (opens_at_least block blocks limit 7 (suc n) a h margin x (omega (arith, fits)) (omega arith) (omega arith))
      (λ m p. room m.height (suc n) (levels_at_least 7 a h) p.tall fits)
      (λ m p. says_first type_tests (one_binary (below block blocks limit (suc n)) comparisons part.Shift m) (says_as (suc n) s a t (levels_at_least 7 a h) m known p))))

  -- the operator with three operands

  says_choosing : (n : ℕ) (margin : List ℕ) (s : Spot) (a l r : Form) (h j k : ℕ) (m : Measured) → IsRead a h m
      → Spells (forms_at n (below block blocks limit n) part.Whole) ((form_shown l).pieces margin) (IsRead l j)
      → Spells (forms_at n (below block blocks limit n) part.Whole) ((form_shown r).pieces margin) (IsRead r k)
      → Spells (choosing (below block blocks limit (suc n)) m)
      (fixed fixed_part.Question ++ ((form_shown l).pieces margin ++ (fixed fixed_part.Otherwise ++ (form_shown r).pieces margin)))
      (IsRead (form.Conditional s a l r) (max h (max j k) + 1))
  unfolding fixed
  says_choosing n margin s a l r h j k m p x y =
      skips (32 ∷ [])
      (takes (question ∷ []) (λ _. tt) (lexeme.Sign 10) refl
      (λ _ _. skips (32 ∷ [])
      (says_then x
      (λ b q. skips (32 ∷ [])
      (takes (colon ∷ []) (λ _. tt) (lexeme.Sign 8) refl
      (λ _ _. skips (32 ∷ [])
      (says_made (conditional_of m b) y
      (λ c t. record { same = same_Conditional m.spot s m.form a b.form l c.form r p.same q.same t.same; tall = omega (arith, p.tall, q.tall, t.tall) }))))))))

  pub reads_conditional : (n : ℕ) (margin : List ℕ) (s : Spot) (a l r : Form) (h j k : ℕ) → Claim block blocks limit a h → Claim block blocks limit l j → Claim block blocks limit r k
      → max (levels_at_least (0 + 1) a h) (max j k) + 1 ≤ suc n
      → Reads (suc n) (below block blocks limit (suc n)) (form.Conditional s a l r) (max (levels_at_least (0 + 1) a h) (max j k) + 1) ((form_shown (form.Conditional s a l r)).pieces margin)
  reads_conditional n margin s a l r h j k x y z fits =
      at_shown margin _ (shown_Conditional s a l r)
      (reads_low 0 (ap (λ z. z.level) (shown_Conditional s a l r)) (inl refl) (omega arith)
      (says_behind (λ (m : Measured). nat_lt m.height (suc n) ≡ true) (choosing (below block blocks limit (suc n)))
      (λ m ts made rest may d. where_derives (nat_lt m.height (suc n)) (question ∷ []) (choosing (below block blocks limit (suc n)) m) (gives m) ts made rest may d)
      (opens_level 0 (suc n) (below block blocks limit (suc n)) (says_at_least block blocks limit 1 (suc n) a h margin x (omega (arith, fits)) (omega arith)))
      (λ m p. room m.height (suc n) (levels_at_least 1 a h) p.tall (omega (arith, fits)))
      (λ m p. says_choosing n margin s a l r (levels_at_least 1 a h) j k m p (whole (y n (omega (arith, fits)) margin)) (whole (z n (omega (arith, fits)) margin)))))
