-- Members are written well, each where its parts are, its note aside.
use Rattle.std.proofs.Common.{◌≡◌, ℕ, true, false, List, [], ◌∷◌, ◌++◌, All, Option, Some, None, refl, sym, subst, codes, arith}
use Rattle.std.specs.List.{list_all}
use Rattle.cs_token.specs.Words.{is_blank}
use Rattle.cs_token.specs.declared.lexeme.Lexeme.TheVariants as lexeme
use Rattle.cs_tree.specs.declared.types.Name.{Name}
use Rattle.cs_tree.specs.declared.types.TypeForm.{TypeForm}
use Rattle.cs_tree.specs.declared.types.Param.{Param}
use Rattle.cs_tree.specs.declared.forms.Form.{Form}
use Rattle.cs_tree.specs.declared.forms.Block.{Block}
use Rattle.cs_tree.specs.declared.members.Mods.{Mods}
use Rattle.cs_tree.specs.declared.members.Initial.{Initial}
use Rattle.cs_tree.specs.declared.members.Initial.TheVariants as initial
use Rattle.cs_tree.specs.declared.members.Accessor.{Accessor}
use Rattle.cs_tree.specs.declared.members.Explicit.{Explicit}
use Rattle.cs_tree.specs.declared.members.Member.{Member}
use Rattle.cs_tree.specs.declared.members.Member.TheVariants as member
use Rattle.cs_layout.specs.Pieces.{Piece, gap, token}
use Rattle.cs_layout.specs.declared.fixed.Fixed.TheVariants as part
use Rattle.cs_layout.specs.Words.{fixed, name}
use Rattle.cs_layout.specs.Layout.{line, indent, deeper}
use Rattle.cs_unit_layout.specs.declared.headwords.Headword.{Headword}
use Rattle.cs_unit_layout.specs.declared.headwords.Headword.TheVariants as begin
use Rattle.cs_unit_layout.specs.Heads.{headword, mods_pieces}
use Rattle.cs_unit_layout.specs.Members.{body_behind, block_behind, bodied, initial_value, initial_pieces, method_head, maker_head, accessor_laid, accessors_laid, property_head, indexer_head, operator_head, field_laid, constant_laid, constructor_laid, initializer_laid, member_laid}
use Rattle.cs_wellformed.specs.Words.{IsName, IsType, IsParam}
use Rattle.cs_wellformed.specs.WellFormed.{IsWellFormedForm, IsWellFormedBlock}
use Rattle.cs_roundtrip_members.specs.Members.{IsResult, IsFirstValue, IsBody, IsExplicit, IsAccessor, IsInitial, IsWellFormedMember}
use Rattle.cs_roundtrip_written.specs.Sound.{Before, Sound, Is, Free, Closed}
use Rattle.cs_roundtrip_written.proofs.Sounds.{sound_then, sound_none, sound_where, spaced, indented, closed_word, closed_free, takes_free, free_is, closed_is, is_none, free_index, puts, puts_sign, puts_keyword, sound_line}
use Rattle.cs_roundtrip_written.proofs.Words.{sound_word, sound_name}
use Rattle.cs_roundtrip_written.proofs.Forms.{behind_open, closing, sound_arguments, sound_equals, sound_sign_blank}
use Rattle.cs_roundtrip_written.proofs.Statements.{starts, ends_with, sound_brace, sound_braced, sound_typed, deeper_blank}
use Rattle.cs_roundtrip_written.proofs.Whole.{form_sound, block_sound, args_sound}
use Rattle.cs_roundtrip_texts.specs.Notes.{member_notes, AreTexts}
use Rattle.cs_roundtrip_texts.specs.Lines.{Lines}
use Rattle.cs_roundtrip_texts.proofs.Lines.{lines_sound, lines_then}
use Rattle.cs_roundtrip_texts.proofs.Noted.{lines_note}
use Rattle.cs_roundtrip_texts.proofs.Heads.{word_then, sound_mods, sound_result, sound_explicit, sound_list, get_name, set_name, indexer_name}

-- a name where anything may stand
pub free_name : (text : List ℕ) → IsName text → Sound Free (name text) Closed
free_name text h = sound_where (λ s f. takes_free false s f) (sound_name false text h)

-- a word that is a name
free_word : (text : List ℕ) → IsName text → Sound Free (token (lexeme.Name text) ∷ []) Closed
free_word text h = sound_where (λ s f. takes_free false s f) (sound_word false (lexeme.Name text) h refl)

blank_word : {Post : Before → Type 0} {ps : List Piece} (text : List ℕ) → IsName text → Sound Free ps Post → Sound Free (token (lexeme.Name text) ∷ gap (32 ∷ []) ∷ ps) Post
blank_word text h x = puts (lexeme.Name text) h (λ s f. f (lexeme.Name text)) (spaced 32 [] refl (sound_where (λ s e. is_none s e) x))

closed_keyword : (k : ℕ) (s : Before) → s ≡ Some (lexeme.Keyword k) → Closed s
closed_keyword k s e = closed_is (Some (lexeme.Keyword k)) s (closed_word (lexeme.Keyword k) refl) e

module _ (levels limit blocks : ℕ) (margin : List ℕ) (blank : list_all is_blank margin ≡ true) where
  -- what stands behind heads

  sound_block : (b : Block) → IsWellFormedBlock levels limit blocks b → Sound Closed (block_behind b margin) (Is None)
  unfolding fixed
  sound_block b w = spaced 10 [] refl (sound_braced margin blank b (block_sound levels limit w.1 (deeper margin) (deeper_blank margin blank)))

  sound_body : (o : Option Block) → IsBody levels limit blocks o → Sound Closed (body_behind o margin) (Is None)
  unfolding fixed
  sound_body None w = puts_sign 7 (omega arith) (λ s c. c 7) (spaced 10 [] refl (sound_none (λ s e. e)))
  sound_body (Some b) w = sound_block b w

  sound_bodied : (ps : List Piece) (o : Option Block) → Sound Free ps Closed → IsBody levels limit blocks o → Sound (Is None) (bodied ps o margin) (Is None)
  unfolding indent
  sound_bodied ps o x w = indented margin blank (starts (sound_then x (sound_body o w)))

  sound_value : (o : Option Form) → IsFirstValue levels limit blocks o → Sound Closed (initial_value o margin) Closed
  sound_value None w = sound_none (λ s c. c)
  sound_value (Some a) w = sound_equals a margin (form_sound levels limit w.2 margin blank)

  sound_initial : (i : Initial) → IsInitial levels limit blocks i → Sound Closed (initial_pieces i margin) Closed
  unfolding fixed headword
  sound_initial (initial.Base args) w =
      sound_sign_blank 8 (omega arith)
      (puts_keyword 2 (omega arith) (λ s f. f (lexeme.Keyword 2)) (sound_where (closed_keyword 2) (sound_arguments args margin (args_sound levels limit w.2 margin blank))))
  sound_initial (initial.This args) w =
      sound_sign_blank 8 (omega arith)
      (puts_keyword 62 (omega arith) (λ s f. f (lexeme.Keyword 62)) (sound_where (closed_keyword 62) (sound_arguments args margin (args_sound levels limit w.2 margin blank))))

  -- members

  sound_field : (mods : Mods) (t : TypeForm) (x : Name) (o : Option Form) → IsType limit t → IsName x.text → IsFirstValue levels limit blocks o → Sound (Is None) (field_laid mods t x o margin) (Is None)
  unfolding fixed
  sound_field mods t x o h q w =
      sound_line margin blank
      (starts (sound_then (sound_mods mods) (sound_then (sound_typed margin blank limit t x h q) (sound_then (sound_value o w) (ends_with 7 (omega arith))))))

  sound_constant : (mods : Mods) (t : TypeForm) (x : Name) (a : Form) → IsType limit t → IsName x.text → IsWellFormedForm levels limit blocks a
      → Sound (Is None) (constant_laid mods t x a margin) (Is None)
  unfolding fixed headword
  sound_constant mods t x a h q w =
      sound_line margin blank
      (starts
      (sound_then (sound_mods mods)
      (word_then 11 (omega arith)
      (sound_then (sound_typed margin blank limit t x h q)
      (sound_sign_blank 11 (omega arith) (sound_then (form_sound levels limit w.2 margin blank).any (ends_with 7 (omega arith))))))))

  sound_method : (mods : Mods) (r : Option TypeForm) (e : Option Explicit) (x : Name) (ps : List Param) (o : Option Block) → IsResult limit r → IsExplicit e → IsName x.text
      → All (IsParam limit) ps → IsBody levels limit blocks o → Sound (Is None) (bodied (method_head mods r e x ps) o margin) (Is None)
  sound_method mods r e x ps o h i q y w =
      sound_bodied (method_head mods r e x ps) o
      (sound_then (sound_mods mods) (sound_then (sound_result limit r h) (sound_then (sound_explicit e i) (sound_then (free_name x.text q) (sound_list limit ps y))))) w

  sound_maker_head : (mods : Mods) (x : Name) (ps : List Param) → IsName x.text → All (IsParam limit) ps → Sound Free (maker_head mods x ps) Closed
  sound_maker_head mods x ps q y = sound_then (sound_mods mods) (sound_then (free_name x.text q) (sound_list limit ps y))

  sound_constructor : (mods : Mods) (x : Name) (ps : List Param) (i : Initial) (b : Block) → IsName x.text → All (IsParam limit) ps → IsInitial levels limit blocks i
      → IsWellFormedBlock levels limit blocks b → Sound (Is None) (constructor_laid mods x ps i b margin) (Is None)
  unfolding indent
  sound_constructor mods x ps i b q y h w =
      indented margin blank (starts (sound_then (sound_maker_head mods x ps q y) (sound_then (sound_initial i h) (sound_block b w))))

  sound_initializer : (x : Name) (b : Block) → IsName x.text → IsWellFormedBlock levels limit blocks b → Sound (Is None) (initializer_laid x b margin) (Is None)
  unfolding indent fixed headword
  sound_initializer x b q w =
      indented margin blank
      (starts
      (word_then 58 (omega arith)
      (sound_then (sound_then (free_name x.text q) (puts_sign 2 (omega arith) (λ s c. c 2) (behind_open (sound_where closed_free closing)))) (sound_block b w))))

  sound_maker : (mods : Mods) (x : Name) (ps : List Param) → IsName x.text → All (IsParam limit) ps → Sound (Is None) (line margin (maker_head mods x ps ++ fixed part.Semicolon)) (Is None)
  unfolding fixed
  sound_maker mods x ps q y = sound_line margin blank (starts (sound_then (sound_maker_head mods x ps q y) (ends_with 7 (omega arith))))

  sound_operator : (t : TypeForm) (x : Name) (ps : List Param) → IsType limit t → IsName x.text → All (IsParam limit) ps
      → Sound (Is None) (line margin (operator_head t x ps ++ fixed part.Semicolon)) (Is None)
  unfolding fixed headword
  sound_operator t x ps h q y =
      sound_line margin blank
      (starts (word_then 43 (omega arith) (sound_then (sound_then (sound_typed margin blank limit t x h q) (sound_list limit ps y)) (ends_with 7 (omega arith)))))

  sound_property_line : (mods : Mods) (t : TypeForm) (x : Name) → IsType limit t → IsName x.text → Sound (Is None) (line margin (property_head mods t x)) (Is None)
  sound_property_line mods t x h q = sound_line margin blank (starts (sound_then (sound_mods mods) (sound_typed margin blank limit t x h q)))

  sound_indexer_line : (mods : Mods) (t : TypeForm) (x : Name) (u : TypeForm) (y : Name) → IsType limit t → IsName x.text → IsType limit u → IsName y.text
      → Sound (Is None) (line margin (indexer_head mods t x u y)) (Is None)
  unfolding fixed headword
  sound_indexer_line mods t x u y h q i r =
      sound_line margin blank
      (starts
      (sound_then (sound_mods mods)
      (blank_word (codes "indexer") indexer_name
      (sound_then (sound_typed margin blank limit t x h q)
      (puts_sign 4 (omega arith) (λ s c. c 4)
      (sound_where (λ s e. free_is (Some (lexeme.Sign 4)) s free_index e) (sound_then (sound_typed margin blank limit u y i r) (ends_with 5 (omega arith)))))))))

-- accessors

sound_accessor : (levels limit blocks : ℕ) (margin : List ℕ) → list_all is_blank margin ≡ true → (h : Headword) (text : List ℕ) → IsName text → headword h ≡ token (lexeme.Name text) ∷ []
    → (o : Option Accessor) → IsAccessor levels limit blocks o → Sound (Is None) (accessor_laid h o margin) (Is None)
sound_accessor levels limit blocks margin blank h text q e None w = sound_none (λ s n. n)
sound_accessor levels limit blocks margin blank h text q e (Some a) w =
    sound_bodied levels limit blocks margin blank (mods_pieces a.mods ++ headword h) a.block
    (sound_then (sound_mods a.mods) (subst (λ ps. Sound Free ps Closed) (sym e) (free_word text q))) w

sound_accessors : (levels limit blocks : ℕ) (margin : List ℕ) → list_all is_blank margin ≡ true → (g r : Option Accessor) → IsAccessor levels limit blocks g → IsAccessor levels limit blocks r
    → Sound (Is None) (accessors_laid g r margin) (Is None)
unfolding fixed headword
sound_accessors levels limit blocks margin blank g r h k =
    sound_then (sound_brace margin blank 0 (omega arith))
    (sound_then (sound_accessor levels limit blocks (deeper margin) (deeper_blank margin blank) begin.Get (codes "get") get_name refl g h)
    (sound_then (sound_accessor levels limit blocks (deeper margin) (deeper_blank margin blank) begin.Set (codes "set") set_name refl r k) (sound_brace margin blank 1 (omega arith))))

-- each member, with its note

pub member_lines : (levels limit blocks : ℕ) (m : Member) (margin : List ℕ) → list_all is_blank margin ≡ true → IsWellFormedMember levels limit blocks m → AreTexts (member_notes m)
    → Lines (member_laid m margin)
member_lines levels limit blocks (member.Field s note mods t x o) margin blank w n =
    lines_then (lines_note note margin blank n) (lines_sound (sound_field levels limit blocks margin blank mods t x o w.0 w.1 w.2))
member_lines levels limit blocks (member.Constant s note mods t x a) margin blank w n =
    lines_then (lines_note note margin blank n) (lines_sound (sound_constant levels limit blocks margin blank mods t x a w.0 w.1 w.2))
member_lines levels limit blocks (member.Method s note mods r e x ps b) margin blank w n =
    lines_then (lines_note note margin blank n) (lines_sound (sound_method levels limit blocks margin blank mods r e x ps b w.0 w.1 w.2 w.3 w.4))
member_lines levels limit blocks (member.Constructor s note mods x ps i b) margin blank w n =
    lines_then (lines_note note margin blank n) (lines_sound (sound_constructor levels limit blocks margin blank mods x ps i b w.0 w.1 w.2 w.3))
member_lines levels limit blocks (member.Initializer s note x b) margin blank w n =
    lines_then (lines_note note margin blank n) (lines_sound (sound_initializer levels limit blocks margin blank x b w.0 w.1))
member_lines levels limit blocks (member.Property s note mods t x g r) margin blank w n =
    lines_then (lines_note note margin blank n)
    (lines_sound (sound_then (sound_property_line levels limit blocks margin blank mods t x w.0 w.1) (sound_accessors levels limit blocks margin blank g r w.2 w.3)))
member_lines levels limit blocks (member.Maker s mods x ps) margin blank w n = lines_sound (sound_maker levels limit blocks margin blank mods x ps w.0 w.1)
member_lines levels limit blocks (member.Indexer s mods t x u y g r) margin blank w n =
    lines_sound (sound_then (sound_indexer_line levels limit blocks margin blank mods t x u y w.0 w.1 w.2 w.3) (sound_accessors levels limit blocks margin blank g r w.4 w.5))
member_lines levels limit blocks (member.Operator s t x ps) margin blank w n = lines_sound (sound_operator levels limit blocks margin blank t x ps w.0 w.1 w.2)
