-- Expressions are written well, each where its parts are.
use Rattle.std.proofs.Common.{◌≡◌, ℕ, ◌+◌, ◌≤◌, ◌<◌, ◌||◌, ◌&&◌, Bool, true, false, nat_lt, List, [], ◌∷◌, ◌++◌, All, map, Some, None, refl, sym, ap, subst, arith}
use Rattle.std.specs.List.{list_all}
use Rattle.cs_token.specs.Words.{is_blank}
use Rattle.cs_token.specs.declared.lexeme.Lexeme.{Lexeme}
use Rattle.cs_token.specs.declared.lexeme.Lexeme.TheVariants as lexeme
use Rattle.cs_tree.specs.declared.types.Spot.{Spot}
use Rattle.cs_tree.specs.declared.types.TypeName.{TypeName}
use Rattle.cs_tree.specs.declared.types.TypeForm.{TypeForm}
use Rattle.cs_tree.specs.declared.types.Param.{Param}
use Rattle.cs_tree.specs.declared.types.Way.{Way}
use Rattle.cs_tree.specs.declared.forms.UnaryOp.{UnaryOp}
use Rattle.cs_tree.specs.declared.forms.UnaryOp.TheVariants as unary_op
use Rattle.cs_tree.specs.declared.forms.BinaryOp.{BinaryOp}
use Rattle.cs_tree.specs.declared.forms.BinaryOp.TheVariants as binary_op
use Rattle.cs_tree.specs.declared.forms.Arg.{Arg}
use Rattle.cs_tree.specs.declared.forms.Form.{Form}
use Rattle.cs_tree.specs.declared.forms.Form.TheVariants as form
use Rattle.cs_tree.specs.declared.forms.Block.{Block}
use Rattle.cs_layout.specs.Pieces.{Piece, gap, token}
use Rattle.cs_layout.specs.declared.fixed.Fixed.TheVariants as part
use Rattle.cs_layout.specs.Words as layout
use Rattle.cs_layout.specs.Words.{fixed, name, unary_sign, unary_pieces, binary_sign, binary_pieces, binary_level}
use Rattle.cs_layout.specs.Layout.{Laid, Shown, form_shown, arg_laid, block_laid, enclosed, at_least, is_minus_op, deeper, indent}
use Rattle.cs_layout.specs.Layout as laid
use Rattle.cs_wellformed.specs.Words.{IsName, IsTypeName, IsType, IsParam}
use Rattle.cs_wellformed.specs.WellFormed.{arg_of}
use Rattle.cs_wellformed.proofs.Shown.{shown_Unary}
use Rattle.cs_wellformed.proofs.Parts.{shown_arg}
use Rattle.cs_roundtrip_written.specs.Sound.{Before, fits, Sound, Is, Free, Closed, is_sign, Takes, FormSound}
use Rattle.cs_roundtrip_written.proofs.Sounds.{sound_then, sound_none, sound_where, spaced, indented, closed_word, closed_free, takes_free, takes_less, free_is, closed_is, is_none, free_open, free_close, free_index, free_unindex, free_dot, free_brace, puts_sign, puts_keyword, takes_word}
use Rattle.cs_roundtrip_written.proofs.Words.{sound_name, sound_type_name, sound_type, sound_way, sound_comma, sound_params}

pub low_enough : (a w : ℕ) → nat_lt a w ≡ false → w ≤ a
low_enough a w e = grind (arith, e)

-- from what an expression is by itself

pub at_shown : {f : Form} (margin : List ℕ) (s : Shown) → form_shown f ≡ s → FormSound f (s.pieces margin) → FormSound f ((form_shown f).pieces margin)
at_shown {f} margin s e x = subst (λ z. FormSound f (z.pieces margin)) (sym e) x

pub sound_primary : {f : Form} {ps : List Piece} → Sound (Takes false) ps Closed → FormSound f ps
sound_primary {f} x =
    record { any = sound_where (λ s f. takes_free false s f) x; tight = λ _. sound_where (takes_less (form_shown f).is_minus) x; plain = λ _. x }

pub sound_low : {f : Form} {ps : List Piece} (k : ℕ) → (form_shown f).level ≡ k → k < 11 → Sound Free ps Closed → FormSound f ps
sound_low k e l x = record { any = x; tight = λ t. absurd (omega (arith, e, l, t)); plain = λ t. absurd (omega (arith, e, l, t)) }

-- behind what just stands there
pub behind_open : {ps : List Piece} {Post : Before → Type 0} → Sound Free ps Post → Sound (Is (Some (lexeme.Sign 2))) ps Post
behind_open x = sound_where (λ s e. free_is (Some (lexeme.Sign 2)) s free_open e) x

pub close : {Post : Before → Type 0} {ps : List Piece} → Sound Free ps Post → Sound Closed (token (lexeme.Sign 3) ∷ ps) Post
close x = puts_sign 3 (omega arith) (λ s c. c 3) (sound_where (λ s e. free_is (Some (lexeme.Sign 3)) s free_close e) x)

pub closing : Sound Closed (token (lexeme.Sign 3) ∷ []) Closed
closing = close (sound_none closed_free)

-- in parentheses, or not
enclosed_sound : {Pre : Before → Type 0} {ps : List Piece} → ((s : Before) → Pre s → fits s (lexeme.Sign 2) ≡ true) → Sound Free ps Closed → Sound Pre (enclosed true ps) Closed
unfolding fixed
enclosed_sound may x = puts_sign 2 (omega arith) may (behind_open (sound_then x closing))

may_enclose : {Pre : Before → Type 0} (inside : Bool) (ps : List Piece) → ((s : Before) → Pre s → fits s (lexeme.Sign 2) ≡ true) → Sound Free ps Closed → (inside ≡ false → Sound Pre ps Closed)
    → Sound Pre (enclosed inside ps) Closed
may_enclose true ps may x y = enclosed_sound may x
may_enclose false ps may x y = y refl

pub sound_at_least : (w : ℕ) (a : Form) (margin : List ℕ) → FormSound a ((form_shown a).pieces margin) → Sound Free (at_least w (form_shown a) margin) Closed
sound_at_least w a margin x = may_enclose (nat_lt (form_shown a).level w) ((form_shown a).pieces margin) (λ s f. f (lexeme.Sign 2)) x.any (λ _. x.any)

pub sound_object : (w : ℕ) (a : Form) (margin : List ℕ) → 12 ≤ w → FormSound a ((form_shown a).pieces margin) → Sound (Takes false) (at_least w (form_shown a) margin) Closed
sound_object w a margin l x =
    may_enclose (nat_lt (form_shown a).level w) ((form_shown a).pieces margin) (λ s t. t.paren) x.any
    (λ e. x.plain (let low = low_enough (form_shown a).level w e in omega (arith, l, low)))

-- arguments

pub record ArgsSound (args : List Arg) (margin : List ℕ) : Type 0 where
  pub more : Sound Closed (layout.more_listed (map (λ (a : Laid). a margin) (map arg_laid args))) Closed
  pub all : Sound Free (layout.listed (map (λ (a : Laid). a margin) (map arg_laid args))) Closed

pub args_none : (margin : List ℕ) → ArgsSound [] margin
args_none margin = record { more = sound_none (λ s c. c); all = sound_none closed_free }

arg_sound : (w : Way) (a : Form) (margin : List ℕ) → FormSound a ((form_shown a).pieces margin) → Sound Free (arg_laid (arg_of w a) margin) Closed
arg_sound w a margin x = subst (λ g. Sound Free (g margin) Closed) (sym (shown_arg w a)) (sound_then (sound_way w) x.any)

pub args_more : (w : Way) (a : Form) (args : List Arg) (margin : List ℕ) → FormSound a ((form_shown a).pieces margin) → ArgsSound args margin → ArgsSound (arg_of w a ∷ args) margin
args_more w a args margin x y = record { more = sound_comma (sound_then (arg_sound w a margin x) y.more); all = sound_then (arg_sound w a margin x) y.more }

pub sound_arguments : (args : List Arg) (margin : List ℕ) → ArgsSound args margin → Sound Closed (laid.arguments (map arg_laid args) margin) Closed
unfolding fixed
sound_arguments args margin x = puts_sign 2 (omega arith) (λ s c. c 2) (behind_open (sound_then x.all closing))

-- what stands behind a primary expression

pub sound_dot : {Post : Before → Type 0} {ps : List Piece} (text : List ℕ) → IsName text → Sound Closed ps Post → Sound Closed (fixed part.Dot ++ (name text ++ ps)) Post
unfolding fixed
sound_dot text h x = puts_sign 9 (omega arith) (λ s c. c 9) (sound_then (sound_where (λ s e. takes_free false s (free_is (Some (lexeme.Sign 9)) s free_dot e)) (sound_name false text h)) x)

pub sound_member : (text : List ℕ) → IsName text → Sound Closed (fixed part.Dot ++ name text) Closed
unfolding fixed
sound_member text h = puts_sign 9 (omega arith) (λ s c. c 9) (sound_where (λ s e. takes_free false s (free_is (Some (lexeme.Sign 9)) s free_dot e)) (sound_name false text h))

pub sound_index : (i : Form) (margin : List ℕ) → FormSound i ((form_shown i).pieces margin) → Sound Closed (fixed part.OpenIndex ++ ((form_shown i).pieces margin ++ fixed part.CloseIndex)) Closed
unfolding fixed
sound_index i margin x =
    puts_sign 4 (omega arith) (λ s c. c 4)
    (sound_where (λ s e. free_is (Some (lexeme.Sign 4)) s free_index e)
    (sound_then x.any (puts_sign 5 (omega arith) (λ s c. c 5) (sound_none (λ s e. closed_free s (free_is (Some (lexeme.Sign 5)) s free_unindex e))))))

-- what begins with a keyword

keyword_closed : (k : ℕ) (s : Before) → s ≡ Some (lexeme.Keyword k) → Closed s
keyword_closed k s e = closed_is (Some (lexeme.Keyword k)) s (closed_word (lexeme.Keyword k) refl) e

pub sound_this : Sound (Takes false) (fixed part.This) Closed
unfolding fixed
sound_this = puts_keyword 62 (omega arith) (takes_word false 62) (sound_none (keyword_closed 62))

pub sound_base : {Post : Before → Type 0} {ps : List Piece} → Sound Free ps Post → Sound (Takes false) (fixed part.Base ++ ps) Post
unfolding fixed
sound_base x =
    puts_keyword 2 (omega arith) (takes_word false 2)
    (puts_sign 9 (omega arith) (λ s e. keyword_closed 2 s e 9) (sound_where (λ s e. free_is (Some (lexeme.Sign 9)) s free_dot e) x))

pub sound_new : {Post : Before → Type 0} {ps : List Piece} (x : TypeName) → IsTypeName x → Sound Closed ps Post → Sound (Takes false) (fixed part.New ++ (layout.type_without_ranks x ++ ps)) Post
unfolding fixed
sound_new x h y =
    puts_keyword 40 (omega arith) (takes_word false 40) (spaced 32 [] refl (sound_then (sound_where (λ s e. takes_free false s (is_none s e)) (sound_type_name false x h)) y))

-- a keyword and what stands behind it in parentheses
in_parens : (k : ℕ) → k < 77 → {ps : List Piece} → Sound Free ps Closed → Sound (Takes false) (token (lexeme.Keyword k) ∷ token (lexeme.Sign 2) ∷ (ps ++ token (lexeme.Sign 3) ∷ [])) Closed
in_parens k low x =
    puts_keyword k low (takes_word false k) (puts_sign 2 (omega arith) (λ s e. keyword_closed k s e 2) (behind_open (sound_then x closing)))

pub sound_checked : (a : Form) (margin : List ℕ) → FormSound a ((form_shown a).pieces margin) → Sound (Takes false) (fixed part.Checked ++ ((form_shown a).pieces margin ++ fixed part.Close)) Closed
unfolding fixed
sound_checked a margin x = in_parens 9 (omega arith) x.any

pub sound_unchecked : (a : Form) (margin : List ℕ) → FormSound a ((form_shown a).pieces margin) → Sound (Takes false) (fixed part.Unchecked ++ ((form_shown a).pieces margin ++ fixed part.Close)) Closed
unfolding fixed
sound_unchecked a margin x = in_parens 69 (omega arith) x.any

pub sound_default : (limit : ℕ) (t : TypeForm) → IsType limit t → Sound (Takes false) (fixed part.DefaultOf ++ (layout.type_pieces t ++ fixed part.Close)) Closed
unfolding fixed
sound_default limit t h = in_parens 14 (omega arith) (sound_where (λ s f. takes_free false s f) (sound_type false limit t h))

-- a lambda, whose block stands on lines of its own
pub sound_lambda : (limit : ℕ) (params : List Param) (b : Block) (margin : List ℕ) → list_all is_blank margin ≡ true → All (IsParam limit) params → Sound (Is None) (block_laid b (deeper margin)) (Is None)
    → Sound (Takes false)
    (fixed part.Open ++ (layout.listed (map layout.param_pieces params) ++ (fixed part.Arrow ++ (block_laid b (deeper margin) ++ (indent margin ++ fixed part.CloseBrace))))) Closed
unfolding fixed indent
sound_lambda limit params b margin blank known x =
    puts_sign 2 (omega arith) (λ s t. t.paren)
    (behind_open
    (sound_then (sound_params limit params known)
    (close
    (spaced 32 [] refl
    (puts_sign 32 (omega arith) (λ s e. is_none s e (lexeme.Sign 32))
    (spaced 32 [] refl
    (puts_sign 0 (omega arith) (λ s e. is_none s e (lexeme.Sign 0))
    (spaced 10 [] refl
    (sound_then x
    (indented margin blank
    (puts_sign 1 (omega arith) (λ s e. is_none s e (lexeme.Sign 1)) (sound_none (λ s e. closed_free s (free_is (Some (lexeme.Sign 1)) s free_brace e))))))))))))))

-- operators

unary_low : (o : UnaryOp) → unary_sign o < 40
unary_low unary_op.Not = omega arith
unary_low unary_op.Complement = omega arith
unary_low unary_op.Minus = omega arith

binary_low : (o : BinaryOp) → binary_sign o < 40
binary_low binary_op.Or = omega arith
binary_low binary_op.And = omega arith
binary_low binary_op.BitOr = omega arith
binary_low binary_op.BitXor = omega arith
binary_low binary_op.BitAnd = omega arith
binary_low binary_op.Equal = omega arith
binary_low binary_op.Unequal = omega arith
binary_low binary_op.Less = omega arith
binary_low binary_op.Greater = omega arith
binary_low binary_op.AtMost = omega arith
binary_low binary_op.AtLeast = omega arith
binary_low binary_op.ShiftLeft = omega arith
binary_low binary_op.ShiftRight = omega arith
binary_low binary_op.Add = omega arith
binary_low binary_op.Sub = omega arith
binary_low binary_op.Mul = omega arith
binary_low binary_op.Div = omega arith
binary_low binary_op.Rem = omega arith

pub level_low : (o : BinaryOp) → binary_level o < 11
level_low binary_op.Or = omega arith
level_low binary_op.And = omega arith
level_low binary_op.BitOr = omega arith
level_low binary_op.BitXor = omega arith
level_low binary_op.BitAnd = omega arith
level_low binary_op.Equal = omega arith
level_low binary_op.Unequal = omega arith
level_low binary_op.Less = omega arith
level_low binary_op.Greater = omega arith
level_low binary_op.AtMost = omega arith
level_low binary_op.AtLeast = omega arith
level_low binary_op.ShiftLeft = omega arith
level_low binary_op.ShiftRight = omega arith
level_low binary_op.Add = omega arith
level_low binary_op.Sub = omega arith
level_low binary_op.Mul = omega arith
level_low binary_op.Div = omega arith
level_low binary_op.Rem = omega arith

-- what may stand behind an operator with one operand
sign_word : (o : UnaryOp) (l : Lexeme) → is_sign l ≡ false → fits (Some (lexeme.Sign (unary_sign o))) l ≡ true
sign_word o (lexeme.Name t) h = refl
sign_word o (lexeme.Keyword k) h = refl
sign_word o (lexeme.Number n s) h = refl
sign_word o (lexeme.Char u) h = refl
sign_word o (lexeme.Literal us) h = refl
sign_word o (lexeme.Sign k) h = absurd (cc)

both_signed : (m : Bool) → (true && m) ≡ false → m ≡ true → ⊥
both_signed true e d = cc
both_signed false e d = cc

behind_unary : (o : UnaryOp) (m : Bool) → (is_minus_op o && m) ≡ false → Takes m (Some (lexeme.Sign (unary_sign o)))
behind_unary unary_op.Not m e = record { words = sign_word unary_op.Not; paren = refl; bang = refl; tilde = refl; signed = λ _. refl }
behind_unary unary_op.Complement m e = record { words = sign_word unary_op.Complement; paren = refl; bang = refl; tilde = refl; signed = λ _. refl }
behind_unary unary_op.Minus m e = record { words = sign_word unary_op.Minus; paren = refl; bang = refl; tilde = refl; signed = λ d. absurd (both_signed m e d) }

paren_behind : (o : UnaryOp) → fits (Some (lexeme.Sign (unary_sign o))) (lexeme.Sign 2) ≡ true
paren_behind unary_op.Not = refl
paren_behind unary_op.Complement = refl
paren_behind unary_op.Minus = refl

or_left : (a b : Bool) → (a || b) ≡ false → a ≡ false
or_left true b e = e
or_left false b e = refl

or_right : (a b : Bool) → (a || b) ≡ false → b ≡ false
or_right true b e = absurd (cc)
or_right false b e = e

takes_operator : (o : UnaryOp) (s : Before) → Takes (is_minus_op o) s → fits s (lexeme.Sign (unary_sign o)) ≡ true
takes_operator unary_op.Not s t = t.bang
takes_operator unary_op.Complement s t = t.tilde
takes_operator unary_op.Minus s t = t.signed refl

sound_operand : (o : UnaryOp) (a : Form) (margin : List ℕ) → FormSound a ((form_shown a).pieces margin)
    → Sound (Is (Some (lexeme.Sign (unary_sign o)))) (laid.signed_operand o (form_shown a) margin) Closed
sound_operand o a margin x =
    may_enclose (nat_lt (form_shown a).level 11 || is_minus_op o && (form_shown a).is_minus) ((form_shown a).pieces margin)
    (λ s e. subst (λ z. fits z (lexeme.Sign 2) ≡ true) (sym e) (paren_behind o)) x.any
    (λ e. sound_where
    (λ s d. subst (Takes (form_shown a).is_minus) (sym d) (behind_unary o (form_shown a).is_minus (or_right (nat_lt (form_shown a).level 11) (is_minus_op o && (form_shown a).is_minus) e)))
    (x.tight (low_enough (form_shown a).level 11 (or_left (nat_lt (form_shown a).level 11) (is_minus_op o && (form_shown a).is_minus) e))))

pub sound_unary : (s : Spot) (o : UnaryOp) (a : Form) (margin : List ℕ) → FormSound a ((form_shown a).pieces margin) → FormSound (form.Unary s o a) ((form_shown (form.Unary s o a)).pieces margin)
unfolding unary_pieces
sound_unary s o a margin x =
    at_shown margin _ (shown_Unary s o a)
    (record {
      any = puts_sign (unary_sign o) (unary_low o) (λ z f. f (lexeme.Sign (unary_sign o))) (sound_operand o a margin x);
      tight = λ _. subst (λ m. Sound (Takes m) (token (lexeme.Sign (unary_sign o)) ∷ laid.signed_operand o (form_shown a) margin) Closed) (sym (ap (λ z. z.is_minus) (shown_Unary s o a)))
          (puts_sign (unary_sign o) (unary_low o) (takes_operator o) (sound_operand o a margin x));
      plain = λ l. absurd (let e : (form_shown (form.Unary s o a)).level ≡ 11 = ap (λ z. z.level) (shown_Unary s o a) in omega (arith, e, l));
    })

pub sound_cast : (limit : ℕ) (t : TypeForm) (a : Form) (margin : List ℕ) → IsType limit t → FormSound a ((form_shown a).pieces margin)
    → Sound (Takes false) (fixed part.Open ++ (layout.type_pieces t ++ (fixed part.Close ++ laid.cast_operand (form_shown a) margin))) Closed
unfolding fixed
sound_cast limit t a margin h x =
    puts_sign 2 (omega arith) (λ s e. e.paren)
    (behind_open
    (sound_then (sound_where (λ s f. takes_free false s f) (sound_type false limit t h))
    (close
    (may_enclose (nat_lt (form_shown a).level 12 || (form_shown a).is_lambda) ((form_shown a).pieces margin) (λ s f. f (lexeme.Sign 2)) x.any (λ _. x.any)))))

-- an operator with blanks around it
blank_sign : {Pre Post : Before → Type 0} {ps : List Piece} (k : ℕ) → k < 40 → Sound Free ps Post → Sound Pre (gap (32 ∷ []) ∷ token (lexeme.Sign k) ∷ gap (32 ∷ []) ∷ ps) Post
blank_sign k low x = spaced 32 [] refl (puts_sign k low (λ s e. is_none s e (lexeme.Sign k)) (spaced 32 [] refl (sound_where is_none x)))

pub blank_keyword : {Pre Post : Before → Type 0} {ps : List Piece} (k : ℕ) → k < 77 → Sound Free ps Post → Sound Pre (gap (32 ∷ []) ∷ token (lexeme.Keyword k) ∷ gap (32 ∷ []) ∷ ps) Post
blank_keyword k low x = spaced 32 [] refl (puts_keyword k low (λ s e. is_none s e (lexeme.Keyword k)) (spaced 32 [] refl (sound_where is_none x)))

pub sound_binary : (o : BinaryOp) (l r : Form) (margin : List ℕ) → FormSound l ((form_shown l).pieces margin) → FormSound r ((form_shown r).pieces margin)
    → Sound Free (at_least (binary_level o) (form_shown l) margin ++ (binary_pieces o ++ at_least (binary_level o + 1) (form_shown r) margin)) Closed
unfolding binary_pieces
sound_binary o l r margin x y =
    sound_then (sound_at_least (binary_level o) l margin x) (blank_sign (binary_sign o) (binary_low o) (sound_at_least (binary_level o + 1) r margin y))

pub sound_is : (limit : ℕ) (a : Form) (t : TypeForm) (margin : List ℕ) → IsType limit t → FormSound a ((form_shown a).pieces margin)
    → Sound Free (at_least 7 (form_shown a) margin ++ (fixed part.Is ++ layout.type_pieces t)) Closed
unfolding fixed
sound_is limit a t margin h x = sound_then (sound_at_least 7 a margin x) (blank_keyword 36 (omega arith) (sound_where (λ s f. takes_free false s f) (sound_type false limit t h)))

pub sound_as : (limit : ℕ) (a : Form) (t : TypeForm) (margin : List ℕ) → IsType limit t → FormSound a ((form_shown a).pieces margin)
    → Sound Free (at_least 7 (form_shown a) margin ++ (fixed part.As ++ layout.type_pieces t)) Closed
unfolding fixed
sound_as limit a t margin h x = sound_then (sound_at_least 7 a margin x) (blank_keyword 1 (omega arith) (sound_where (λ s f. takes_free false s f) (sound_type false limit t h)))

pub sound_conditional : (a l r : Form) (margin : List ℕ) → FormSound a ((form_shown a).pieces margin) → FormSound l ((form_shown l).pieces margin) → FormSound r ((form_shown r).pieces margin)
    → Sound Free (at_least (0 + 1) (form_shown a) margin ++ (fixed part.Question ++ ((form_shown l).pieces margin ++ (fixed part.Otherwise ++ (form_shown r).pieces margin)))) Closed
unfolding fixed
sound_conditional a l r margin x y z =
    sound_then (sound_at_least (0 + 1) a margin x) (blank_sign 10 (omega arith) (sound_then y.any (blank_sign 8 (omega arith) z.any)))

-- assignments
pub sound_equals : (a : Form) (margin : List ℕ) {Pre : Before → Type 0} → FormSound a ((form_shown a).pieces margin) → Sound Pre (fixed part.Equals ++ (form_shown a).pieces margin) Closed
unfolding fixed
sound_equals a margin x = blank_sign 11 (omega arith) x.any

pub sound_sign_blank : {Pre Post : Before → Type 0} {ps : List Piece} (k : ℕ) → k < 40 → Sound Free ps Post → Sound Pre (gap (32 ∷ []) ∷ token (lexeme.Sign k) ∷ gap (32 ∷ []) ∷ ps) Post
sound_sign_blank k low x = blank_sign k low x
