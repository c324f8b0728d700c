-- Expressions that are read, in parentheses or not.
use Rattle.std.proofs.Common.{◌≡◌, ◌⊎◌, inl, inr, ℕ, zero, suc, ◌+◌, ◌≤◌, ◌<◌, Bool, true, false, List, [], ◌∷◌, refl, sym, ◌∙◌, ap, subst, nat_lt, arith}
use Rattle.std.proofs.Math.Nat.{eq-or-lt_of_le}
use Rattle.cs_token.specs.Placed.{Placed as Token}
use Rattle.cs_token.specs.declared.lexeme.Lexeme.TheVariants as lexeme
use Rattle.cs_tree.specs.declared.forms.Form.{Form}
use Rattle.cs_tree.specs.declared.forms.Block.{Block}
use Rattle.cs_productions.specs.declared.values.Measured.{Measured}
use Rattle.cs_productions.specs.declared.values.Part.TheVariants as part
use Rattle.cs_grammar.specs.Grammar.{Grammar}
use Rattle.cs_productions.specs.Kinds.{paren, unparen}
use Rattle.cs_productions.specs.Tokens.{spot_of}
use Rattle.cs_productions.specs.Inner.{Inner}
use Rattle.cs_productions.specs.Calls.{postfixes}
use Rattle.cs_productions.specs.Operators.{in_parentheses}
use Rattle.cs_productions.specs.Levels.{forms_at, at, below}
use Rattle.cs_statements.specs.Actions.{parenthesized}
use Rattle.cs_layout.specs.Pieces.{Piece}
use Rattle.cs_layout.specs.Words.{fixed}
use Rattle.cs_layout.specs.Layout.{Shown, form_shown, enclosed, at_least}
use Rattle.cs_wellformed.specs.Standing.{is_path, enclosed_levels, levels_at_least}
use Rattle.cs_roundtrip_types.specs.Spells.{Spells}
use Rattle.cs_roundtrip_forms.specs.Standing.{Opens, standing, rounds, Top, operands, top_at, member_tail, index_tail}
use Rattle.cs_roundtrip_forms.specs.Reading.{IsRead, MayStand, Reads}
use Rattle.cs_roundtrip_forms.proofs.Opening.{opens_end, opens_in, opens_with, opens_then, opens_takes, closes, no_rounds, opens_level, lower}
use Rattle.cs_roundtrip_forms.proofs.Leading.{from_counted}

-- from what an expression is by itself

pub at_shown : {n : ℕ} {inner : Inner} {f : Form} {h : ℕ} (margin : List ℕ) (s : Shown) → form_shown f ≡ s → Reads n inner f h (s.pieces margin) → Reads n inner f h ((form_shown f).pieces margin)
at_shown {n} {inner} {f} {h} margin s e x = subst (λ z. Reads n inner f h (z.pieces margin)) (sym e) x

-- of an operator with one operand or three, or a cast
pub reads_low : {n : ℕ} {inner : Inner} {f : Form} {h : ℕ} {ps : List Piece} (k : ℕ) → (form_shown f).level ≡ k → (k ≡ 0) ⊎ (11 ≤ k) → k < 13 → Spells (standing k n inner) ps (IsRead f h) → Reads n inner f h ps
reads_low {n} {inner} {f} {h} {ps} k e out l x =
    record {
      stands = subst (λ j. Spells (standing j n inner) ps (IsRead f h)) (sym e) x;
      chains = λ low high. absurd (elim out [ inl z ↦ omega (arith, e, z, low) | inr z ↦ omega (arith, e, z, high) ]);
      primary = λ top may t. absurd (omega (arith, e, l, t));
      member = λ top may t _. absurd (omega (arith, e, l, t));
      index = λ top may t. absurd (omega (arith, e, l, t));
    }

-- of an operator with two operands
pub reads_level : {n : ℕ} {inner : Inner} {f : Form} {h : ℕ} {ps : List Piece} (k : ℕ) → (form_shown f).level ≡ k → k < 13 → Opens (rounds k n inner) (standing k n inner) ps (IsRead f h)
    → Reads n inner f h ps
reads_level {n} {inner} {f} {h} {ps} k e l x =
    record {
      stands = subst (λ j. Spells (standing j n inner) ps (IsRead f h)) (sym e) (closes (no_rounds k n inner) x);
      chains = λ low high. subst (λ j. Opens (rounds j n inner) (standing j n inner) ps (IsRead f h)) (sym e) x;
      primary = λ top may t. absurd (omega (arith, e, l, t));
      member = λ top may t _. absurd (omega (arith, e, l, t));
      index = λ top may t. absurd (omega (arith, e, l, t));
    }

no_postfix : (n : ℕ) (inner : Inner) (m : Measured) (ts : List Token) → (postfixes n inner m).derives ts m ts
no_postfix n inner m ts = (zero, (refl, refl))

-- a primary expression behind which anything may stand
pub reads_post : {n : ℕ} {inner : Inner} {f : Form} {h : ℕ} {ps : List Piece} → (form_shown f).level ≡ 14
    → ((top : Top) → MayStand f top → Opens (postfixes n inner) (top_at top n inner) ps (IsRead f h)) → Reads n inner f h ps
reads_post {n} {inner} {f} {h} {ps} e x =
    record {
      stands = subst (λ j. Spells (standing j n inner) ps (IsRead f h)) (sym e) (closes (no_postfix n inner) (x operands (λ _. refl)));
      chains = λ low high. absurd (omega (arith, e, high));
      primary = λ top may t. closes (no_postfix n inner) (x top may);
      member = λ top may t _. opens_with (λ m ts made rest d. (suc d.1.3.0, (d.1.0, d.1.1, d.0, inl d.1.2, d.1.3.1))) (x top may);
      index = λ top may t. opens_with (λ m ts made rest d. (suc d.1.3.0, (d.1.0, d.1.1, d.0, inr d.1.2, d.1.3.1))) (x top may);
    }

pub reads_path : {n : ℕ} {inner : Inner} {f : Form} {h : ℕ} {ps : List Piece} → (form_shown f).level ≡ 14 → is_path f ≡ true
    → ((top : Top) → Spells (top_at top n inner) ps (IsRead f h)) → ((top : Top) → Opens (index_tail n inner) (top_at top n inner) ps (IsRead f h)) → Reads n inner f h ps
reads_path {n} {inner} {f} {h} {ps} e path x y =
    record {
      stands = subst (λ j. Spells (standing j n inner) ps (IsRead f h)) (sym e) (x operands);
      chains = λ low high. absurd (omega (arith, e, high));
      primary = λ top may t. x top;
      member = λ top may t no_path. absurd (not_both (sym path ∙ no_path));
      index = λ top may t. y top;
    }
  where
    not_both : true ≡ false → ⊥
    not_both e = cc

pub reads_array : {n : ℕ} {inner : Inner} {f : Form} {h : ℕ} {ps : List Piece} → (form_shown f).level ≡ 13
    → ((top : Top) → Spells (top_at top n inner) ps (IsRead f h)) → ((top : Top) → Opens (member_tail n inner) (top_at top n inner) ps (IsRead f h)) → Reads n inner f h ps
reads_array {n} {inner} {f} {h} {ps} e x y =
    record {
      stands = subst (λ j. Spells (standing j n inner) ps (IsRead f h)) (sym e) (x operands);
      chains = λ low high. absurd (omega (arith, e, high));
      primary = λ top may t. x top;
      member = λ top may t _. y top;
      index = λ top may t. absurd (omega (arith, e, t));
    }

pub whole : {n : ℕ} {inner : Inner} {f : Form} {h : ℕ} {ps : List Piece} → Reads n inner f h ps → Spells (forms_at n inner part.Whole) ps (IsRead f h)
whole {n} {inner} {f} x = lower (form_shown f).level zero n inner (omega arith) x.stands

-- in parentheses

pub opens_paren : {f : Form} {h : ℕ} {ps : List Piece} (top : Top) (k : ℕ) (i : Inner) → Spells (forms_at k i part.Whole) ps (IsRead f h)
    → Opens (postfixes (suc k) (at k i)) (top_at top (suc k) (at k i)) (enclosed true ps) (IsRead f (h + 1))
unfolding fixed
opens_paren top k i x =
    opens_in {g = parenthesized (suc k) (at k i)} (λ ts m rest d. from_counted top k i ts m rest (inl d))
    (opens_takes (paren ∷ []) spot_of (lexeme.Sign 2) refl
    (λ s _. opens_then x
    (λ a p. opens_takes (unparen ∷ []) (λ _. tt) (lexeme.Sign 3) refl
    (λ _ _. opens_end (postfixes (suc k) (at k i)) (in_parentheses (spot_of s) a) (record { same = p.same; tall = ap (λ z. z + 1) p.tall })))))

-- an expression that is read within each number of levels that is enough for it, whatever the margin
abbrev pub Claim : Grammar Token Block → ℕ → ℕ → Form → ℕ → Type 0
Claim block blocks limit f h = (n : ℕ) → h ≤ n → (margin : List ℕ) → Reads n (below block blocks limit n) f h ((form_shown f).pieces margin)

module _ (block : Grammar Token Block) (blocks limit : ℕ) where
  pub says_enclosed : (inside : Bool) (w n : ℕ) (f : Form) (h : ℕ) (margin : List ℕ) → Claim block blocks limit f h → enclosed_levels inside h ≤ n → (inside ≡ false → w ≤ (form_shown f).level) → w ≤ 12
      → Spells (standing w n (below block blocks limit n)) (enclosed inside ((form_shown f).pieces margin)) (IsRead f (enclosed_levels inside h))
  says_enclosed true w zero f h margin x l low t = absurd (omega (arith, l))
  says_enclosed true w (suc k) f h margin x l low t =
      lower 12 w (suc k) (below block blocks limit (suc k)) t
      (closes (no_postfix (suc k) (below block blocks limit (suc k))) (opens_paren operands k (below block blocks limit k) (whole (x k (omega (arith, l)) margin))))
  says_enclosed false w n f h margin x l low t = lower (form_shown f).level w n (below block blocks limit n) (low refl) (x n l margin).stands

  pub low_enough : (a w : ℕ) → nat_lt a w ≡ false → w ≤ a
  low_enough a w e = grind (arith, e)

  pub says_at_least : (w n : ℕ) (f : Form) (h : ℕ) (margin : List ℕ) → Claim block blocks limit f h → levels_at_least w f h ≤ n → w ≤ 12
      → Spells (standing w n (below block blocks limit n)) (at_least w (form_shown f) margin) (IsRead f (levels_at_least w f h))
  says_at_least w n f h margin x l t = says_enclosed (nat_lt (form_shown f).level w) w n f h margin x l (low_enough (form_shown f).level w) t

  says_open : (inside : Bool) (w n : ℕ) (f : Form) (h : ℕ) (margin : List ℕ) → Claim block blocks limit f h → enclosed_levels inside h ≤ n → (inside ≡ false → w ≤ (form_shown f).level) → 1 ≤ w → w ≤ 10
      → Opens (rounds w n (below block blocks limit n)) (standing w n (below block blocks limit n)) (enclosed inside ((form_shown f).pieces margin)) (IsRead f (enclosed_levels inside h))
  says_open true w n f h margin x l low o t =
      opens_level w n (below block blocks limit n) (says_enclosed true (suc w) n f h margin x l (λ e. absurd (not_true e)) (omega (arith, t)))
    where
      not_true : true ≡ false → ⊥
      not_true e = cc
  says_open false w n f h margin x l low o t = elim (eq-or-lt_of_le (low refl)) [
    | inl e ↦ subst (λ j. Opens (rounds j n (below block blocks limit n)) (standing j n (below block blocks limit n)) ((form_shown f).pieces margin) (IsRead f h)) (sym e) ((x n l margin).chains (omega (arith, e, o)) (omega (arith, e, t)))
    | inr d ↦ opens_level w n (below block blocks limit n) (lower (form_shown f).level (suc w) n (below block blocks limit n) (omega (arith, d)) (x n l margin).stands)
  ]

  pub opens_at_least : (w n : ℕ) (f : Form) (h : ℕ) (margin : List ℕ) → Claim block blocks limit f h → levels_at_least w f h ≤ n → 1 ≤ w → w ≤ 10
      → Opens (rounds w n (below block blocks limit n)) (standing w n (below block blocks limit n)) (at_least w (form_shown f) margin) (IsRead f (levels_at_least w f h))
  opens_at_least w n f h margin x l o t = says_open (nat_lt (form_shown f).level w) w n f h margin x l (low_enough (form_shown f).level w) o t

  -- what isn't asked of the parts of an expression, and of its types
  pub ranks_are : (n : ℕ) → (below block blocks limit n).ranks ≡ limit
  ranks_are zero = refl
  ranks_are (suc n) = ranks_are n

  pub blocks_are : (n : ℕ) → (below block blocks limit n).blocks ≡ blocks
  blocks_are zero = refl
  blocks_are (suc n) = blocks_are n

  pub block_is : (n : ℕ) → (below block blocks limit n).block ≡ block
  block_is zero = refl
  block_is (suc n) = block_is n

  member_object : (inside : Bool) (top : Top) (n : ℕ) (f : Form) (h : ℕ) (margin : List ℕ) → Claim block blocks limit f h → MayStand f top → is_path f ≡ false → enclosed_levels inside h ≤ n
      → (inside ≡ false → 13 ≤ (form_shown f).level)
      → Opens (member_tail n (below block blocks limit n)) (top_at top n (below block blocks limit n)) (enclosed inside ((form_shown f).pieces margin)) (IsRead f (enclosed_levels inside h))
  member_object true top zero f h margin x may no_path l low = absurd (omega (arith, l))
  member_object true top (suc k) f h margin x may no_path l low =
      opens_with (λ m ts made rest d. (suc d.1.3.0, (d.1.0, d.1.1, d.0, inl d.1.2, d.1.3.1)))
      (opens_paren top k (below block blocks limit k) (whole (x k (omega (arith, l)) margin)))
  member_object false top n f h margin x may no_path l low = (x n l margin).member top may (low refl) no_path

  pub opens_member_object : (top : Top) (n : ℕ) (f : Form) (h : ℕ) (margin : List ℕ) → Claim block blocks limit f h → MayStand f top → is_path f ≡ false → levels_at_least 13 f h ≤ n
      → Opens (member_tail n (below block blocks limit n)) (top_at top n (below block blocks limit n)) (at_least 13 (form_shown f) margin) (IsRead f (levels_at_least 13 f h))
  opens_member_object top n f h margin x may no_path l =
      member_object (nat_lt (form_shown f).level 13) top n f h margin x may no_path l (low_enough (form_shown f).level 13)

  index_object : (inside : Bool) (top : Top) (n : ℕ) (f : Form) (h : ℕ) (margin : List ℕ) → Claim block blocks limit f h → MayStand f top → enclosed_levels inside h ≤ n
      → (inside ≡ false → 14 ≤ (form_shown f).level)
      → Opens (index_tail n (below block blocks limit n)) (top_at top n (below block blocks limit n)) (enclosed inside ((form_shown f).pieces margin)) (IsRead f (enclosed_levels inside h))
  index_object true top zero f h margin x may l low = absurd (omega (arith, l))
  index_object true top (suc k) f h margin x may l low =
      opens_with (λ m ts made rest d. (suc d.1.3.0, (d.1.0, d.1.1, d.0, inr d.1.2, d.1.3.1)))
      (opens_paren top k (below block blocks limit k) (whole (x k (omega (arith, l)) margin)))
  index_object false top n f h margin x may l low = (x n l margin).index top may (low refl)

  pub opens_index_object : (top : Top) (n : ℕ) (f : Form) (h : ℕ) (margin : List ℕ) → Claim block blocks limit f h → MayStand f top → levels_at_least 14 f h ≤ n
      → Opens (index_tail n (below block blocks limit n)) (top_at top n (below block blocks limit n)) (at_least 14 (form_shown f) margin) (IsRead f (levels_at_least 14 f h))
  opens_index_object top n f h margin x may l =
      index_object (nat_lt (form_shown f).level 14) top n f h margin x may l (low_enough (form_shown f).level 14)
