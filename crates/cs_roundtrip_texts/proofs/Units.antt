-- Types and whole texts are written well.
use Rattle.std.proofs.Common.{◌≡◌, ℕ, ◌<◌, ◌^◌, Bool, true, false, List, [], ◌∷◌, ◌++◌, All, map, Option, Some, None, refl, sym, ◌∙◌, ap, subst, arith}
use Rattle.std.specs.List.{list_all, flat_map}
use Rattle.cs_token.specs.Words.{is_blank}
use Rattle.cs_token.specs.declared.lexeme.Suffix.TheVariants.{Plain}
use Rattle.cs_token.specs.declared.lexeme.Lexeme.TheVariants as lexeme
use Rattle.cs_tree.specs.declared.types.Spot.{Spot}
use Rattle.cs_tree.specs.declared.types.Name.{Name}
use Rattle.cs_tree.specs.declared.types.TypeForm.{TypeForm}
use Rattle.cs_tree.specs.declared.types.Param.{Param}
use Rattle.cs_tree.specs.declared.members.Mods.{Mods}
use Rattle.cs_tree.specs.declared.members.Member.{Member}
use Rattle.cs_tree.specs.declared.declarations.Kind.{Kind}
use Rattle.cs_tree.specs.declared.declarations.Kind.TheVariants.{Class, Interface, Struct}
use Rattle.cs_tree.specs.declared.declarations.Enumerator.{Enumerator}
use Rattle.cs_tree.specs.declared.declarations.Item.{Item}
use Rattle.cs_tree.specs.declared.declarations.Item.TheVariants as item
use Rattle.cs_tree.specs.declared.declarations.Decl.{Decl}
use Rattle.cs_tree.specs.declared.declarations.Decl.TheVariants as decl
use Rattle.cs_tree.specs.declared.declarations.Decl.TheOpen.{Decl-F, Item-F}
use Rattle.cs_tree.specs.declared.declarations.Decl.TheFolds.{fold-roll-Decl, fold-roll-Item}
use Rattle.cs_tree.specs.declared.declarations.Space.{Space}
use Rattle.cs_tree.specs.declared.declarations.Space.TheVariants as space
use Rattle.cs_tree.specs.declared.declarations.Unit.{Unit as WholeText}
use Rattle.cs_layout.specs.Words as layout
use Rattle.cs_layout.specs.Words.{fixed, name, path}
use Rattle.cs_layout.specs.Layout.{Laid, line, deeper}
use Rattle.cs_unit_layout.specs.declared.headwords.Headword.TheVariants as begin
use Rattle.cs_unit_layout.specs.Heads.{headword, flag_pieces, kind_pieces, bases_pieces}
use Rattle.cs_unit_layout.specs.Units.{between, each, enumerator_laid, body_head, enum_head, delegate_head, decl_laid, item_laid, space_laid, unit_laid}
use Rattle.cs_wellformed.specs.Words.{IsName, IsPath, IsType, IsParam}
use Rattle.cs_roundtrip_types.proofs.Types.{all_first, all_others}
use Rattle.cs_roundtrip_members.specs.Members.{IsResult}
use Rattle.cs_roundtrip_units.specs.Units.{IsEnumerator, IsDecl, AreItems, IsWellFormedDecl, IsWellFormedSpace, IsWellFormedUnit}
use Rattle.cs_roundtrip_units.proofs.Decls.{shown_Body, shown_Enum, shown_Delegate, shown_member, shown_type}
use Rattle.cs_roundtrip_written.specs.Sound.{Before, fits, Sound, Is, Free, Closed}
use Rattle.cs_roundtrip_written.proofs.Sounds.{sound_then, sound_none, sound_where, takes_free, closed_word, closed_is, puts, puts_sign, sound_line}
use Rattle.cs_roundtrip_written.proofs.Words.{sound_type, sound_path, sound_comma}
use Rattle.cs_roundtrip_written.proofs.Forms.{sound_sign_blank}
use Rattle.cs_roundtrip_written.proofs.Statements.{starts, ends_with, sound_brace, deeper_blank}
use Rattle.cs_roundtrip_texts.specs.Notes as notes
use Rattle.cs_roundtrip_texts.specs.Notes.{Notes, some_note, member_notes, decl_notes, item_notes, space_notes, unit_notes, AreTexts}
use Rattle.cs_roundtrip_texts.specs.Lines.{Lines}
use Rattle.cs_roundtrip_texts.proofs.Lines.{lines_sound, lines_none, lines_then}
use Rattle.cs_roundtrip_texts.proofs.Noted.{lines_note, lines_assembly, texts_left, texts_right}
use Rattle.cs_roundtrip_texts.proofs.Heads.{word_then, sound_mods, sound_result, sound_list}
use Rattle.cs_roundtrip_texts.proofs.Members.{free_name, member_lines}

-- types behind a name

free_type : (limit : ℕ) (t : TypeForm) → IsType limit t → Sound Free (layout.type_pieces t) Closed
free_type limit t h = sound_where (λ s f. takes_free false s f) (sound_type false limit t h)

more_types : (limit : ℕ) (ts : List TypeForm) → All (IsType limit) ts → Sound Closed (layout.more_listed (map layout.type_pieces ts)) Closed
more_types limit [] h = sound_none (λ s c. c)
more_types limit (t ∷ ts) h = sound_comma (sound_then (free_type limit t (all_first (IsType limit) t ts h)) (more_types limit ts (all_others (IsType limit) t ts h)))

sound_bases : (limit : ℕ) (ts : List TypeForm) → All (IsType limit) ts → Sound Closed (bases_pieces ts) Closed
unfolding fixed
sound_bases limit [] h = sound_none (λ s c. c)
sound_bases limit (t ∷ ts) h =
    sound_sign_blank 8 (omega arith) (sound_then (free_type limit t (all_first (IsType limit) t ts h)) (more_types limit ts (all_others (IsType limit) t ts h)))

sound_kind : (k : Kind) → Sound Free (kind_pieces k) Free
unfolding headword
sound_kind Class = word_then 10 (omega arith) (sound_none (λ s f. f))
sound_kind Interface = word_then 34 (omega arith) (sound_none (λ s f. f))
sound_kind Struct = word_then 60 (omega arith) (sound_none (λ s f. f))

-- constants of enums

abbrev Numbered : ℕ → Before → Type 0
Numbered n s = fits s (lexeme.Number n Plain) ≡ true

sound_minus : (n : ℕ) (b : Bool) → Sound Free (flag_pieces b begin.Minus) (Numbered n)
unfolding headword
sound_minus n true = puts_sign 18 (omega arith) (λ s f. f (lexeme.Sign 18)) (sound_none (λ s e. ap (λ z. fits z (lexeme.Number n Plain)) e))
sound_minus n false = sound_none (λ s f. f (lexeme.Number n Plain))

sound_amount : (n : ℕ) → n < 2 ^ 64 → Sound (Numbered n) (layout.number n Plain) Closed
unfolding layout.number
sound_amount n h =
    puts (lexeme.Number n Plain) h (λ s e. e) (sound_none (λ s e. closed_is (Some (lexeme.Number n Plain)) s (closed_word (lexeme.Number n Plain) refl) e))

module _ (margin : List ℕ) (blank : list_all is_blank margin ≡ true) where
  sound_enumerator : (e : Enumerator) → IsEnumerator e → Sound (Is None) (enumerator_laid e margin) (Is None)
  unfolding fixed headword
  sound_enumerator e h =
      sound_line margin blank
      (starts
      (sound_then (free_name e.name.text h.0)
      (sound_sign_blank 11 (omega arith) (sound_then (sound_minus e.value e.negative) (sound_then (sound_amount e.value h.1) (ends_with 6 (omega arith)))))))

  sound_enumerators : (es : List Enumerator) → All IsEnumerator es → Sound (Is None) (each (map enumerator_laid es) margin) (Is None)
  sound_enumerators [] h = sound_none (λ s e. e)
  sound_enumerators (e ∷ es) h = sound_then (sound_enumerator e (all_first IsEnumerator e es h)) (sound_enumerators es (all_others IsEnumerator e es h))

  -- the first lines of types

  sound_body_line : (limit : ℕ) (mods : Mods) (k : Kind) (x : Name) (ts : List TypeForm) → IsName x.text → All (IsType limit) ts → Sound (Is None) (line margin (body_head mods k x ts)) (Is None)
  sound_body_line limit mods k x ts q h =
      sound_line margin blank (starts (sound_then (sound_mods mods) (sound_then (sound_kind k) (sound_then (free_name x.text q) (sound_bases limit ts h)))))

  sound_enum_line : (limit : ℕ) (mods : Mods) (x : Name) (t : TypeForm) → IsName x.text → IsType limit t → Sound (Is None) (line margin (enum_head mods x t)) (Is None)
  unfolding fixed headword
  sound_enum_line limit mods x t q h =
      sound_line margin blank
      (starts (sound_then (sound_mods mods) (word_then 19 (omega arith) (sound_then (free_name x.text q) (sound_sign_blank 8 (omega arith) (free_type limit t h))))))

  sound_delegate_line : (limit : ℕ) (mods : Mods) (r : Option TypeForm) (x : Name) (ps : List Param) → IsResult limit r → IsName x.text → All (IsParam limit) ps
      → Sound (Is None) (line margin (delegate_head mods r x ps)) (Is None)
  unfolding fixed headword
  sound_delegate_line limit mods r x ps h q y =
      sound_line margin blank
      (starts
      (sound_then (sound_mods mods)
      (word_then 15 (omega arith)
      (sound_then (sound_result limit r h) (sound_then (free_name x.text q) (sound_then (sound_list limit ps y) (ends_with 7 (omega arith))))))))

  sound_namespace_line : (texts : List (List ℕ)) → IsPath texts → Sound (Is None) (line margin (headword begin.Namespace ++ path texts)) (Is None)
  unfolding headword
  sound_namespace_line texts h =
      sound_line margin blank (starts (word_then 39 (omega arith) (sound_where (λ s f. takes_free false s f) (sound_path false texts h))))

  -- parts between braces
  lines_between : (parts : Laid) → Lines (parts (deeper margin)) → Lines (between parts margin)
  unfolding fixed
  lines_between parts x = lines_then (lines_sound (sound_brace margin blank 0 (omega arith))) (lines_then x (lines_sound (sound_brace margin blank 1 (omega arith))))

-- the notes of types

noted_Body : (s : Spot) (note : Option (List ℕ)) (mods : Mods) (k : Kind) (x : Name) (ts : List TypeForm) (items : List Item)
    → decl_notes (decl.Body s note mods k x ts items) ≡ some_note note ++ flat_map (λ (n : Notes). n) (map item_notes items)
noted_Body s note mods k x ts items =
    ap decl_notes (sym (decl.rolls-Body s note mods k x ts items)) ∙ fold-roll-Decl Notes Notes notes.decl_layer notes.item_layer (Decl-F.Body s note mods k x ts items)

noted_Enum : (s : Spot) (note : Option (List ℕ)) (mods : Mods) (x : Name) (t : TypeForm) (es : List Enumerator) → decl_notes (decl.Enum s note mods x t es) ≡ some_note note
noted_Enum s note mods x t es = ap decl_notes (sym (decl.rolls-Enum s note mods x t es)) ∙ fold-roll-Decl Notes Notes notes.decl_layer notes.item_layer (Decl-F.Enum s note mods x t es)

noted_Delegate : (s : Spot) (note : Option (List ℕ)) (mods : Mods) (r : Option TypeForm) (x : Name) (ps : List Param) → decl_notes (decl.Delegate s note mods r x ps) ≡ some_note note
noted_Delegate s note mods r x ps =
    ap decl_notes (sym (decl.rolls-Delegate s note mods r x ps)) ∙ fold-roll-Decl Notes Notes notes.decl_layer notes.item_layer (Decl-F.Delegate s note mods r x ps)

noted_member : (m : Member) → item_notes (item.Member m) ≡ member_notes m
noted_member m = ap item_notes (sym (item.rolls-Member m)) ∙ fold-roll-Item Notes Notes notes.decl_layer notes.item_layer (Item-F.Member m)

noted_type : (d : Decl) → item_notes (item.Type d) ≡ decl_notes d
noted_type d = ap item_notes (sym (item.rolls-Type d)) ∙ fold-roll-Item Notes Notes notes.decl_layer notes.item_layer (Item-F.Type d)

-- types, and what stands in them

shown_is : (d : Decl) (g : Laid) (margin : List ℕ) → decl_laid d ≡ g → Lines (g margin) → Lines (decl_laid d margin)
shown_is d g margin e x = subst (λ f. Lines (f margin)) (sym e) x

mutual
  decl_lines : (levels limit blocks : ℕ) (d : Decl) (n : ℕ) (margin : List ℕ) → list_all is_blank margin ≡ true → IsDecl levels limit blocks d n → AreTexts (decl_notes d) → Lines (decl_laid d margin)
  decl_lines levels limit blocks _ _ margin blank (IsDecl.body s note mods k x ts items n a b c) u =
      let v = subst AreTexts (noted_Body s note mods k x ts items) u in
      shown_is (decl.Body s note mods k x ts items) _ margin (shown_Body s note mods k x ts items)
      (lines_then (lines_note note margin blank (texts_left (some_note note) _ v))
      (lines_then (lines_sound (sound_body_line margin blank limit mods k x ts a b))
      (lines_between margin blank (each (map item_laid items))
      (items_lines levels limit blocks items n (deeper margin) (deeper_blank margin blank) c (texts_right (some_note note) _ v)))))
  decl_lines levels limit blocks _ _ margin blank (IsDecl.enum s note mods x t es a b c) u =
      shown_is (decl.Enum s note mods x t es) _ margin (shown_Enum s note mods x t es)
      (lines_then (lines_note note margin blank (subst AreTexts (noted_Enum s note mods x t es) u))
      (lines_then (lines_sound (sound_enum_line margin blank limit mods x t a b))
      (lines_between margin blank (each (map enumerator_laid es)) (lines_sound (sound_enumerators (deeper margin) (deeper_blank margin blank) es c)))))
  decl_lines levels limit blocks _ _ margin blank (IsDecl.delegate s note mods r x ps a b c) u =
      shown_is (decl.Delegate s note mods r x ps) _ margin (shown_Delegate s note mods r x ps)
      (lines_then (lines_note note margin blank (subst AreTexts (noted_Delegate s note mods r x ps) u)) (lines_sound (sound_delegate_line margin blank limit mods r x ps a b c)))

  items_lines : (levels limit blocks : ℕ) (items : List Item) (n : ℕ) (margin : List ℕ) → list_all is_blank margin ≡ true → AreItems levels limit blocks items n
      → AreTexts (flat_map (λ (n : Notes). n) (map item_notes items)) → Lines (each (map item_laid items) margin)
  items_lines levels limit blocks _ _ margin blank AreItems.no_items u = lines_none
  items_lines levels limit blocks _ _ margin blank (AreItems.member_item m items n a b) u =
      lines_then
      (subst (λ g. Lines (g margin)) (sym (shown_member m)) (member_lines levels limit blocks m margin blank a (subst AreTexts (noted_member m) (texts_left (item_notes (item.Member m)) _ u))))
      (items_lines levels limit blocks items n margin blank b (texts_right (item_notes (item.Member m)) _ u))
  items_lines levels limit blocks _ _ margin blank (AreItems.type_item d items n k a b) u =
      lines_then
      (subst (λ g. Lines (g margin)) (sym (shown_type d)) (decl_lines levels limit blocks d n margin blank a (subst AreTexts (noted_type d) (texts_left (item_notes (item.Type d)) _ u))))
      (items_lines levels limit blocks items k margin blank b (texts_right (item_notes (item.Type d)) _ u))

-- whole texts

module _ (levels limit blocks nesting : ℕ) where
  decls_lines : (ds : List Decl) (margin : List ℕ) → list_all is_blank margin ≡ true → All (IsWellFormedDecl levels limit blocks nesting) ds → AreTexts (flat_map decl_notes ds)
      → Lines (each (map decl_laid ds) margin)
  decls_lines [] margin blank w u = lines_none
  decls_lines (d ∷ ds) margin blank w u =
      let first = all_first (IsWellFormedDecl levels limit blocks nesting) d ds w in
      lines_then (decl_lines levels limit blocks d first.0 margin blank first.1 (texts_left (decl_notes d) (flat_map decl_notes ds) u))
      (decls_lines ds margin blank (all_others (IsWellFormedDecl levels limit blocks nesting) d ds w) (texts_right (decl_notes d) (flat_map decl_notes ds) u))

  space_lines : (c : Space) (margin : List ℕ) → list_all is_blank margin ≡ true → IsWellFormedSpace levels limit blocks nesting c → AreTexts (space_notes c) → Lines (space_laid c margin)
  space_lines (space.Type d) margin blank w u = decl_lines levels limit blocks d w.0 margin blank w.1 u
  space_lines (space.Namespace s note p ds) margin blank w u =
      lines_then (lines_note note margin blank (texts_left (some_note note) (flat_map decl_notes ds) u))
      (lines_then (lines_sound (sound_namespace_line margin blank p.names w.0))
      (lines_between margin blank (each (map decl_laid ds))
      (decls_lines ds (deeper margin) (deeper_blank margin blank) w.1 (texts_right (some_note note) (flat_map decl_notes ds) u))))

  spaces_lines : (cs : List Space) → All (IsWellFormedSpace levels limit blocks nesting) cs → AreTexts (flat_map space_notes cs) → Lines (each (map space_laid cs) [])
  spaces_lines [] w u = lines_none
  spaces_lines (c ∷ cs) w u =
      lines_then (space_lines c [] refl (all_first (IsWellFormedSpace levels limit blocks nesting) c cs w) (texts_left (space_notes c) (flat_map space_notes cs) u))
      (spaces_lines cs (all_others (IsWellFormedSpace levels limit blocks nesting) c cs w) (texts_right (space_notes c) (flat_map space_notes cs) u))

  pub unit_lines : (u : WholeText) → IsWellFormedUnit levels limit blocks nesting u → AreTexts (unit_notes u) → Lines (unit_laid u)
  unit_lines u w n =
      lines_then (lines_assembly u.assembly (texts_left (some_note u.assembly) (flat_map space_notes u.spaces) n))
      (spaces_lines u.spaces w (texts_right (some_note u.assembly) (flat_map space_notes u.spaces) n))
