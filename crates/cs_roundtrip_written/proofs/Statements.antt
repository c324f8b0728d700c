-- Statements are written well, each where its parts are.
use Rattle.std.proofs.Common.{◌≡◌, ℕ, ◌<◌, true, false, List, [], ◌∷◌, ◌++◌, All, map, Option, Some, None, refl, sym, subst, codes, arith}
use Rattle.std.specs.Option.{option_map}
use Rattle.std.specs.List.{list_all, flat_map}
use Rattle.cs_token.specs.Words.{is_blank}
use Rattle.cs_token.specs.declared.lexeme.Lexeme.TheVariants as lexeme
use Rattle.cs_tree.specs.declared.types.Spot.{Spot}
use Rattle.cs_tree.specs.declared.types.Name.{Name}
use Rattle.cs_tree.specs.declared.types.TypeForm.{TypeForm}
use Rattle.cs_tree.specs.declared.forms.AssignOp.{AssignOp}
use Rattle.cs_tree.specs.declared.forms.AssignOp.TheVariants as assign_op
use Rattle.cs_tree.specs.declared.forms.SwitchLabel.{SwitchLabel}
use Rattle.cs_tree.specs.declared.forms.SwitchLabel.TheVariants as switch_label
use Rattle.cs_tree.specs.declared.forms.Form.{Form}
use Rattle.cs_tree.specs.declared.forms.Block.{Block}
use Rattle.cs_tree.specs.declared.forms.Action.{Action}
use Rattle.cs_tree.specs.declared.forms.Action.TheVariants as action
use Rattle.cs_tree.specs.declared.forms.Section.{Section}
use Rattle.cs_tree.specs.declared.forms.Catching.{Catching}
use Rattle.cs_tree.specs.declared.forms.Syntax.{Syntax}
use Rattle.cs_tree.specs.declared.forms.Syntax.TheVariants as syntax
use Rattle.cs_layout.specs.Pieces.{Piece, gap, token}
use Rattle.cs_layout.specs.declared.fixed.Fixed.TheVariants as part
use Rattle.cs_layout.specs.Words.{fixed, assign_sign, assign_pieces}
use Rattle.cs_layout.specs.Layout.{Laid, form_shown, action_laid, syntax_laid, block_laid, section_laid, catching_laid, at_least, line, deeper, label_pieces, typed}
use Rattle.cs_layout.specs.Layout as laid
use Rattle.cs_wellformed.specs.Words.{IsName, IsType, IsLabel, AreLabels}
use Rattle.cs_wellformed.specs.WellFormed.{IsMaybeName, section_of, catching_of, block_of}
use Rattle.cs_wellformed.proofs.Parts.{shown_block, shown_catching, shown_section}
use Rattle.cs_wellformed.proofs.Shown.{shown_Assign, shown_Compound, shown_Invoke, shown_Declare, shown_Act, shown_Label, shown_Goto, shown_Break, shown_Continue, shown_Return, shown_Throw, shown_If, shown_While, shown_DoWhile, shown_For, shown_Foreach, shown_Using, shown_Lock, shown_Switch, shown_Try}
use Rattle.cs_roundtrip_types.proofs.Types.{all_first, all_others}
use Rattle.cs_roundtrip_written.specs.Sound.{Before, Sound, Is, Free, Closed, FormSound}
use Rattle.cs_roundtrip_written.proofs.Sounds.{sound_then, sound_none, sound_where, spaced, closed_word, takes_free, closed_is, is_none, puts_sign, puts_keyword, sound_line}
use Rattle.cs_roundtrip_written.proofs.Texts.{blanks_append}
use Rattle.cs_roundtrip_written.proofs.Words.{sound_name, sound_type, sound_literal, sound_blank_name}
use Rattle.cs_roundtrip_written.proofs.Forms.{behind_open, closing, sound_object, sound_equals, sound_sign_blank, blank_keyword}

-- whatever stands before
abbrev pub Any : Before → Type 0
Any s = Unit {0}

-- the start of a line
pub starts : {Post : Before → Type 0} {ps : List Piece} → Sound Free ps Post → Sound (Is None) ps Post
starts x = sound_where is_none x

-- a keyword, a blank, and more
word_blank : {Post : Before → Type 0} {ps : List Piece} (k : ℕ) → k < 77 → Sound Free ps Post → Sound (Is None) (token (lexeme.Keyword k) ∷ gap (32 ∷ []) ∷ ps) Post
word_blank k low x = puts_keyword k low (λ s e. is_none s e (lexeme.Keyword k)) (spaced 32 [] refl (sound_where is_none x))

-- a keyword, a blank, a parenthesis, and more
word_paren : {Post : Before → Type 0} {ps : List Piece} (k : ℕ) → k < 77 → Sound Free ps Post → Sound (Is None) (token (lexeme.Keyword k) ∷ gap (32 ∷ []) ∷ token (lexeme.Sign 2) ∷ ps) Post
word_paren k low x = word_blank k low (puts_sign 2 (omega arith) (λ s f. f (lexeme.Sign 2)) (behind_open x))

pub ends_with : (k : ℕ) → k < 40 → Sound Closed (token (lexeme.Sign k) ∷ []) Any
ends_with k low = puts_sign k low (λ s c. c k) (sound_none (λ s e. tt))

-- a keyword alone, and one with a sign at the end
word_alone : (k : ℕ) → k < 77 → Sound (Is None) (token (lexeme.Keyword k) ∷ []) Any
word_alone k low = puts_keyword k low (λ s e. is_none s e (lexeme.Keyword k)) (sound_none (λ s e. tt))

word_sign : (k j : ℕ) → k < 77 → j < 40 → Sound (Is None) (token (lexeme.Keyword k) ∷ token (lexeme.Sign j) ∷ []) Any
word_sign k j low small =
    puts_keyword k low (λ s e. is_none s e (lexeme.Keyword k))
    (puts_sign j small (λ s e. closed_is (Some (lexeme.Keyword k)) s (closed_word (lexeme.Keyword k) refl) e j) (sound_none (λ s e. tt)))

module _ (margin : List ℕ) (blank : list_all is_blank margin ≡ true) where
  pub deeper_blank : list_all is_blank (deeper margin) ≡ true
  deeper_blank = blanks_append margin (codes "    ") blank refl

  pub sound_brace : (k : ℕ) → k < 40 → Sound (Is None) (line margin (token (lexeme.Sign k) ∷ [])) (Is None)
  sound_brace k low = sound_line margin blank (puts_sign k low (λ s e. is_none s e (lexeme.Sign k)) (sound_none {Post = Any} (λ s e. tt)))

  pub sound_braced : (b : Block) → Sound (Is None) (block_laid b (deeper margin)) (Is None) → Sound (Is None) (laid.braced (block_laid b) margin) (Is None)
  unfolding fixed
  sound_braced b x = sound_then (sound_brace 0 (omega arith)) (sound_then x (sound_brace 1 (omega arith)))

  -- a keyword and an expression in parentheses
  sound_tested : (k : ℕ) (a : Form) → k < 77 → FormSound a ((form_shown a).pieces margin)
      → Sound (Is None) (line margin (token (lexeme.Keyword k) ∷ gap (32 ∷ []) ∷ token (lexeme.Sign 2) ∷ ((form_shown a).pieces margin ++ token (lexeme.Sign 3) ∷ []))) (Is None)
  sound_tested k a low x = sound_line margin blank (word_paren k low (sound_then x.any closing))

  pub sound_typed : (limit : ℕ) (t : TypeForm) (x : Name) → IsType limit t → IsName x.text → Sound Free (typed t x) Closed
  sound_typed limit t x h q = sound_then (sound_where (λ s f. takes_free false s f) (sound_type false limit t h)) (sound_blank_name x.text q)

  -- actions

  pub sound_assign : (p a : Form) → FormSound p ((form_shown p).pieces margin) → FormSound a ((form_shown a).pieces margin) → Sound Free (action_laid (action.Assign p a) margin) Closed
  sound_assign p a x y =
      subst (λ g. Sound Free (g margin) Closed) (sym (shown_Assign p a)) (sound_then (sound_where (λ s f. takes_free false s f) (sound_object 13 p margin (omega arith) x)) (sound_equals a margin y))

  assign_low : (o : AssignOp) → assign_sign o < 40
  assign_low assign_op.Add = omega arith
  assign_low assign_op.Sub = omega arith
  assign_low assign_op.Mul = omega arith
  assign_low assign_op.BitAnd = omega arith
  assign_low assign_op.BitOr = omega arith
  assign_low assign_op.BitXor = omega arith

  pub sound_compound : (o : AssignOp) (p a : Form) → FormSound p ((form_shown p).pieces margin) → FormSound a ((form_shown a).pieces margin)
      → Sound Free (action_laid (action.Compound o p a) margin) Closed
  unfolding assign_pieces
  sound_compound o p a x y =
      subst (λ g. Sound Free (g margin) Closed) (sym (shown_Compound o p a))
      (sound_then (sound_where (λ s f. takes_free false s f) (sound_object 13 p margin (omega arith) x)) (sound_sign_blank (assign_sign o) (assign_low o) y.any))

  pub sound_invoke : (a : Form) → Sound Free ((form_shown a).pieces margin) Closed → Sound Free (action_laid (action.Invoke a) margin) Closed
  sound_invoke a x = subst (λ g. Sound Free (g margin) Closed) (sym (shown_Invoke a)) x

  -- statements

  shown_is : (s : Syntax) (g : Laid) → syntax_laid s ≡ g → Sound (Is None) (g margin) (Is None) → Sound (Is None) (syntax_laid s margin) (Is None)
  shown_is s g e x = subst (λ f. Sound (Is None) (f margin) (Is None)) (sym e) x

  pub sound_declare : (limit : ℕ) (s : Spot) (t : TypeForm) (x : Name) (a : Form) → IsType limit t → IsName x.text → FormSound a ((form_shown a).pieces margin)
      → Sound (Is None) (syntax_laid (syntax.Declare s t x a) margin) (Is None)
  unfolding fixed
  sound_declare limit s t x a h q y =
      shown_is (syntax.Declare s t x a) _ (shown_Declare s t x a)
      (sound_line margin blank (starts (sound_then (sound_typed limit t x h q) (sound_sign_blank 11 (omega arith) (sound_then y.any (ends_with 7 (omega arith)))))))

  pub sound_act : (s : Spot) (a : Action) → Sound Free (action_laid a margin) Closed → Sound (Is None) (syntax_laid (syntax.Act s a) margin) (Is None)
  unfolding fixed
  sound_act s a x = shown_is (syntax.Act s a) _ (shown_Act s a) (sound_line margin blank (starts (sound_then x (ends_with 7 (omega arith)))))

  pub sound_label : (s : Spot) (text : List ℕ) → IsName text → Sound (Is None) (syntax_laid (syntax.Label s text) margin) (Is None)
  unfolding fixed
  sound_label s text h =
      shown_is (syntax.Label s text) _ (shown_Label s text)
      (sound_line margin blank
      (starts
      (sound_then (sound_where (λ s f. takes_free false s f) (sound_name false text h))
      (puts_sign 8 (omega arith) (λ s c. c 8) (spaced 32 [] refl (puts_sign 7 (omega arith) (λ s e. is_none s e (lexeme.Sign 7)) (sound_none {Post = Any} (λ s e. tt))))))))

  pub sound_goto : (s : Spot) (text : List ℕ) → IsName text → Sound (Is None) (syntax_laid (syntax.Goto s text) margin) (Is None)
  unfolding fixed
  sound_goto s text h =
      shown_is (syntax.Goto s text) _ (shown_Goto s text)
      (sound_line margin blank (word_blank 29 (omega arith) (sound_then (sound_where (λ s f. takes_free false s f) (sound_name false text h)) (ends_with 7 (omega arith)))))

  pub sound_break : (s : Spot) → Sound (Is None) (syntax_laid (syntax.Break s) margin) (Is None)
  unfolding fixed
  sound_break s = shown_is (syntax.Break s) _ (shown_Break s) (sound_line margin blank (word_sign 4 7 (omega arith) (omega arith)))

  pub sound_continue : (s : Spot) → Sound (Is None) (syntax_laid (syntax.Continue s) margin) (Is None)
  unfolding fixed
  sound_continue s = shown_is (syntax.Continue s) _ (shown_Continue s) (sound_line margin blank (word_sign 12 7 (omega arith) (omega arith)))

  pub sound_return_nothing : (s : Spot) → Sound (Is None) (syntax_laid (syntax.Return s None) margin) (Is None)
  unfolding fixed
  sound_return_nothing s = shown_is (syntax.Return s None) _ (shown_Return s None) (sound_line margin blank (word_sign 52 7 (omega arith) (omega arith)))

  pub sound_return : (s : Spot) (a : Form) → FormSound a ((form_shown a).pieces margin) → Sound (Is None) (syntax_laid (syntax.Return s (Some a)) margin) (Is None)
  unfolding fixed
  sound_return s a x =
      shown_is (syntax.Return s (Some a)) _ (shown_Return s (Some a)) (sound_line margin blank (word_blank 52 (omega arith) (sound_then x.any (ends_with 7 (omega arith)))))

  pub sound_rethrow : (s : Spot) → Sound (Is None) (syntax_laid (syntax.Throw s None) margin) (Is None)
  unfolding fixed
  sound_rethrow s = shown_is (syntax.Throw s None) _ (shown_Throw s None) (sound_line margin blank (word_sign 63 7 (omega arith) (omega arith)))

  pub sound_throw : (s : Spot) (a : Form) → FormSound a ((form_shown a).pieces margin) → Sound (Is None) (syntax_laid (syntax.Throw s (Some a)) margin) (Is None)
  unfolding fixed
  sound_throw s a x =
      shown_is (syntax.Throw s (Some a)) _ (shown_Throw s (Some a)) (sound_line margin blank (word_blank 63 (omega arith) (sound_then x.any (ends_with 7 (omega arith)))))

  pub sound_no_block : (head : List Piece) → Sound (Is None) (laid.maybe_block head None margin) (Is None)
  sound_no_block head = sound_none (λ s e. e)

  pub sound_else : (b : Block) → Sound (Is None) (block_laid b (deeper margin)) (Is None) → Sound (Is None) (laid.maybe_block (fixed part.Else) (Some (block_laid b)) margin) (Is None)
  unfolding fixed
  sound_else b x = sound_then (sound_line margin blank (word_alone 18 (omega arith))) (sound_braced b x)

  pub sound_finally : (b : Block) → Sound (Is None) (block_laid b (deeper margin)) (Is None) → Sound (Is None) (laid.maybe_block (fixed part.Finally) (Some (block_laid b)) margin) (Is None)
  unfolding fixed
  sound_finally b x = sound_then (sound_line margin blank (word_alone 24 (omega arith))) (sound_braced b x)

  pub sound_if : (s : Spot) (a : Form) (b : Block) (o : Option Block) → FormSound a ((form_shown a).pieces margin) → Sound (Is None) (block_laid b (deeper margin)) (Is None)
      → Sound (Is None) (laid.maybe_block (fixed part.Else) (option_map block_laid o) margin) (Is None) → Sound (Is None) (syntax_laid (syntax.If s a b o) margin) (Is None)
  unfolding fixed
  sound_if s a b o x y z = shown_is (syntax.If s a b o) _ (shown_If s a b o) (sound_then (sound_tested 30 a (omega arith) x) (sound_then (sound_braced b y) z))

  pub sound_while : (s : Spot) (a : Form) (b : Block) → FormSound a ((form_shown a).pieces margin) → Sound (Is None) (block_laid b (deeper margin)) (Is None)
      → Sound (Is None) (syntax_laid (syntax.While s a b) margin) (Is None)
  unfolding fixed
  sound_while s a b x y = shown_is (syntax.While s a b) _ (shown_While s a b) (sound_then (sound_tested 76 a (omega arith) x) (sound_braced b y))

  pub sound_do : (s : Spot) (a : Form) (b : Block) → FormSound a ((form_shown a).pieces margin) → Sound (Is None) (block_laid b (deeper margin)) (Is None)
      → Sound (Is None) (syntax_laid (syntax.DoWhile s b a) margin) (Is None)
  unfolding fixed
  sound_do s a b x y =
      shown_is (syntax.DoWhile s b a) _ (shown_DoWhile s b a)
      (sound_then (sound_line margin blank (word_alone 16 (omega arith)))
      (sound_then (sound_braced b y)
      (sound_line margin blank
      (word_paren 76 (omega arith)
      (sound_then x.any
      (puts_sign 3 (omega arith) (λ s c. c 3) (sound_where (λ s e. closed_is (Some (lexeme.Sign 3)) s (λ k. refl) e) (ends_with 7 (omega arith)))))))))

  pub sound_for : (s : Spot) (a : Form) (d : Action) (b : Block) → FormSound a ((form_shown a).pieces margin) → Sound Free (action_laid d margin) Closed
      → Sound (Is None) (block_laid b (deeper margin)) (Is None) → Sound (Is None) (syntax_laid (syntax.For s a d b) margin) (Is None)
  unfolding fixed
  sound_for s a d b x z y =
      shown_is (syntax.For s a d b) _ (shown_For s a d b)
      (sound_then
      (sound_line margin blank
      (word_paren 27 (omega arith)
      (puts_sign 7 (omega arith) (λ s f. f (lexeme.Sign 7))
      (spaced 32 [] refl
      (sound_then (starts x.any) (puts_sign 7 (omega arith) (λ s c. c 7) (spaced 32 [] refl (sound_then (starts z) closing))))))))
      (sound_braced b y))

  pub sound_foreach : (limit : ℕ) (s : Spot) (t : TypeForm) (x : Name) (a : Form) (b : Block) → IsType limit t → IsName x.text → FormSound a ((form_shown a).pieces margin)
      → Sound (Is None) (block_laid b (deeper margin)) (Is None) → Sound (Is None) (syntax_laid (syntax.Foreach s t x a b) margin) (Is None)
  unfolding fixed
  sound_foreach limit s t x a b h q v y =
      shown_is (syntax.Foreach s t x a b) _ (shown_Foreach s t x a b)
      (sound_then
      (sound_line margin blank (word_paren 28 (omega arith) (sound_then (sound_typed limit t x h q) (blank_keyword 32 (omega arith) (sound_then v.any closing)))))
      (sound_braced b y))

  pub sound_using : (limit : ℕ) (s : Spot) (t : TypeForm) (x : Name) (a : Form) (b : Block) → IsType limit t → IsName x.text → FormSound a ((form_shown a).pieces margin)
      → Sound (Is None) (block_laid b (deeper margin)) (Is None) → Sound (Is None) (syntax_laid (syntax.Using s t x a b) margin) (Is None)
  unfolding fixed
  sound_using limit s t x a b h q v y =
      shown_is (syntax.Using s t x a b) _ (shown_Using s t x a b)
      (sound_then
      (sound_line margin blank (word_paren 72 (omega arith) (sound_then (sound_typed limit t x h q) (sound_sign_blank 11 (omega arith) (sound_then v.any closing)))))
      (sound_braced b y))

  pub sound_lock : (s : Spot) (a : Form) (b : Block) → FormSound a ((form_shown a).pieces margin) → Sound (Is None) (block_laid b (deeper margin)) (Is None)
      → Sound (Is None) (syntax_laid (syntax.Lock s a b) margin) (Is None)
  unfolding fixed
  sound_lock s a b x y = shown_is (syntax.Lock s a b) _ (shown_Lock s a b) (sound_then (sound_tested 37 a (omega arith) x) (sound_braced b y))

  -- sections and catches

  label_line : (l : SwitchLabel) → IsLabel l → Sound (Is None) (label_pieces margin l) (Is None)
  unfolding fixed
  label_line (switch_label.Case s l) h =
      sound_line margin blank (word_blank 6 (omega arith) (sound_then (sound_where (λ s f. takes_free false s f) (sound_literal false l h)) (ends_with 8 (omega arith))))
  label_line (switch_label.Default s) h = sound_line margin blank (word_sign 14 8 (omega arith) (omega arith))

  label_lines : (ls : List SwitchLabel) → All IsLabel ls → Sound (Is None) (flat_map (label_pieces margin) ls) (Is None)
  label_lines [] h = sound_none (λ s e. e)
  label_lines (l ∷ ls) h = sound_then (label_line l (all_first IsLabel l ls h)) (label_lines ls (all_others IsLabel l ls h))

  some_lines : (ls : List SwitchLabel) → AreLabels ls → Sound (Is None) (flat_map (label_pieces margin) ls) (Is None)
  some_lines [] h = absurd h
  some_lines (l ∷ ls) h = sound_then (label_line l h.0) (label_lines ls h.1)

  pub sound_section : (ls : List SwitchLabel) (b : Block) → AreLabels ls → Sound (Is None) (block_laid b (deeper margin)) (Is None)
      → Sound (Is None) (section_laid (section_of ls b) margin) (Is None)
  sound_section ls b h y = subst (λ g. Sound (Is None) (g margin) (Is None)) (sym (shown_section ls b)) (sound_then (some_lines ls h) (sound_braced b y))

  pub sound_switch : (s : Spot) (a : Form) (cs : List Section) → FormSound a ((form_shown a).pieces margin)
      → Sound (Is None) (flat_map (λ (c : Laid). c (deeper margin)) (map section_laid cs)) (Is None) → Sound (Is None) (syntax_laid (syntax.Switch s a cs) margin) (Is None)
  unfolding fixed
  sound_switch s a cs x y =
      shown_is (syntax.Switch s a cs) _ (shown_Switch s a cs)
      (sound_then (sound_tested 61 a (omega arith) x) (sound_then (sound_brace 0 (omega arith)) (sound_then y (sound_brace 1 (omega arith)))))

  maybe_named : (x : Option Name) → IsMaybeName x → Sound Closed (laid.maybe_name x) Closed
  unfolding fixed
  maybe_named None h = sound_none (λ s c. c)
  maybe_named (Some x) h = sound_blank_name x.text h

  pub sound_catching : (limit : ℕ) (s : Spot) (t : TypeForm) (x : Option Name) (b : Block) → IsType limit t → IsMaybeName x → Sound (Is None) (block_laid b (deeper margin)) (Is None)
      → Sound (Is None) (catching_laid (catching_of s t x b) margin) (Is None)
  unfolding fixed
  sound_catching limit s t x b h q y =
      subst (λ g. Sound (Is None) (g margin) (Is None)) (sym (shown_catching s t x b))
      (sound_then
      (sound_line margin blank (word_paren 7 (omega arith) (sound_then (sound_where (λ s f. takes_free false s f) (sound_type false limit t h)) (sound_then (maybe_named x q) closing))))
      (sound_braced b y))

  pub sound_try : (s : Spot) (b : Block) (cs : List Catching) (o : Option Block) → Sound (Is None) (block_laid b (deeper margin)) (Is None)
      → Sound (Is None) (flat_map (λ (c : Laid). c margin) (map catching_laid cs)) (Is None) → Sound (Is None) (laid.maybe_block (fixed part.Finally) (option_map block_laid o) margin) (Is None)
      → Sound (Is None) (syntax_laid (syntax.Try s b cs o) margin) (Is None)
  unfolding fixed
  sound_try s b cs o x y z =
      shown_is (syntax.Try s b cs o) _ (shown_Try s b cs o) (sound_then (sound_line margin blank (word_alone 65 (omega arith))) (sound_then (sound_braced b x) (sound_then y z)))

  pub sound_block : (ss : List Syntax) (end : Spot) → Sound (Is None) (flat_map (λ (s : Laid). s margin) (map syntax_laid ss)) (Is None)
      → Sound (Is None) (block_laid (block_of ss end) margin) (Is None)
  sound_block ss end x = subst (λ g. Sound (Is None) (g margin) (Is None)) (sym (shown_block ss end)) x
