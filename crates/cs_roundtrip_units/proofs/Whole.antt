-- Enums, delegates and whole texts are read, each where what stands in it is.
use Rattle.std.proofs.Common.{◌≡◌, inl, ℕ, zero, suc, ◌≤◌, Bool, true, false, List, [], ◌∷◌, ◌++◌, map, All, Option, Some, None, refl, sym, ◌∙◌, ap, subst, arith}
use Rattle.std.specs.Prelude.{is_some}
use Rattle.std.specs.Option.{option_map}
use Rattle.std.specs.List.{flat_map}
use Rattle.std.proofs.lemmas.List.{append-nil, append_assoc}
use Rattle.cs_token.specs.Placed.{Placed as Token}
use Rattle.cs_token.specs.declared.lexeme.Lexeme.TheVariants as lexeme
use Rattle.cs_token.specs.declared.lexeme.Suffix.TheVariants.{Plain}
use Rattle.cs_tree.specs.declared.types.Spot.{Spot}
use Rattle.cs_tree.specs.declared.types.Name.{Name}
use Rattle.cs_tree.specs.declared.types.TypeForm.{TypeForm}
use Rattle.cs_tree.specs.declared.types.Param.{Param}
use Rattle.cs_tree.specs.declared.members.Mods.{Mods}
use Rattle.cs_tree.specs.declared.members.Member.{Member}
use Rattle.cs_tree.specs.declared.declarations.Enumerator.{Enumerator}
use Rattle.cs_tree.specs.declared.declarations.Item.{Item}
use Rattle.cs_tree.specs.declared.declarations.Item.TheVariants as item
use Rattle.cs_tree.specs.declared.declarations.Decl.{Decl}
use Rattle.cs_tree.specs.declared.declarations.Decl.TheVariants as decl
use Rattle.cs_tree.specs.Bare.{nowhere, bare_name, bare_type}
use Rattle.cs_tree.specs.BareUnits.{bare_enumerator, bare_decl}
use Rattle.cs_grammar.specs.Grammar.{Grammar, gives, bind, turns}
use Rattle.cs_productions.specs.Kinds.{names, number, brace, unbrace, comma, semicolon, colon, equals, minus, kw_enum, kw_delegate, kw_void}
use Rattle.cs_productions.specs.Tokens.{kind, spot_of}
use Rattle.cs_productions.specs.Inner.{Inner}
use Rattle.cs_units.specs.Kinds.{body_kinds, item_kinds}
use Rattle.cs_units.specs.Modifiers.{some_spot, no_spot, flag_given, flag, modifiers}
use Rattle.cs_units.specs.Declarations.{body_type, number_of_lexeme, number_of_token, enumerator_of, enumerator, one_more_enumerator, enum_of, enum_type, some_type, no_type, void_result, typed_result, result, delegate_of, delegate_type, type_behind, item_in, item_at, type_at}
use Rattle.cs_layout.specs.Pieces.{Piece}
use Rattle.cs_layout.specs.declared.fixed.Fixed.TheVariants as part
use Rattle.cs_layout.specs.Words as layout
use Rattle.cs_layout.specs.Words.{fixed, name}
use Rattle.cs_layout.specs.Layout.{Laid, line, deeper}
use Rattle.cs_unit_layout.specs.declared.headwords.Headword.TheVariants as begin
use Rattle.cs_unit_layout.specs.Heads.{headword, flag_pieces, mods_pieces, result_pieces}
use Rattle.cs_unit_layout.specs.Units.{between, each, enumerator_laid, enum_head, delegate_head, decl_laid, item_laid}
use Rattle.cs_wellformed.specs.Words.{IsType, IsParam}
use Rattle.cs_roundtrip_types.specs.Spells.{lexemes, Spells}
use Rattle.cs_roundtrip_types.proofs.Spelling.{says_nothing, skips, takes, says_then, says_made, says_so, says_like, says_in, says_first, says_second, says_no_round, says_round}
use Rattle.cs_roundtrip_types.proofs.Types.{all_first, all_others, same_type, says_name, says_type}
use Rattle.cs_roundtrip_statements.proofs.Lines.{line_is, line_front, says_line, says_line_front, more, says_no_more, says_one_more}
use Rattle.cs_roundtrip_members.specs.Members.{IsResult}
use Rattle.cs_roundtrip_members.specs.Laws.{IsMemberAs}
use Rattle.cs_roundtrip_members.proofs.Heads.{says_modifiers, says_params}
use Rattle.cs_roundtrip_members.proofs.Members.{behind_note, known_params, name_same}
use Rattle.cs_tree.specs.declared.types.Path.{Path}
use Rattle.cs_tree.specs.declared.declarations.Space.{Space}
use Rattle.cs_tree.specs.declared.declarations.Space.TheVariants as space
use Rattle.cs_tree.specs.BareUnits.{bare_space}
use Rattle.cs_productions.specs.Kinds.{dot, kw_namespace}
use Rattle.cs_units.specs.Kinds.{decl_kinds}
use Rattle.cs_units.specs.Declarations.{path_first, path_more, one_more_step, placed_path, one_more_type, namespace_of, of_namespace, of_type, one_space, one_more_space, unit_of, inside}
use Rattle.cs_units.proofs.DeeperDeclarations.{has_one_unit}
use Rattle.cs_unit_layout.specs.Heads.{assembly_note, noted, assembly_pieces}
use Rattle.cs_unit_layout.specs.Units.{space_laid, unit_laid}
use Rattle.cs_wellformed.specs.Words.{IsPath}
use Rattle.cs_roundtrip_types.proofs.Spelling.{lexemes-append, read_back}
use Rattle.cs_roundtrip_types.proofs.Types.{says_name_text}
use Rattle.cs_roundtrip_members.proofs.Whole.{is_inside, at_any}
use Rattle.cs_roundtrip_units.specs.Units.{IsDecl, AreItems, IsWellFormedDecl, IsWellFormedSpace}
use Rattle.cs_roundtrip_units.specs.Laws.{TextsAreReadBack}
use Rattle.cs_roundtrip_units.proofs.Decls.{bare_item, bare_member_item, bare_type_item, shown_member, shown_type, shown_Enum, shown_Delegate, bare_Enum, bare_Delegate, known, DeclIsRead, ItemsAreRead, reads_body}

-- enums

says_minus : (b : Bool) → Spells (flag minus) (flag_pieces b begin.Minus) (λ o. is_some o ≡ b)
unfolding headword
says_minus true = says_first (minus ∷ []) (gives no_spot) (takes (minus ∷ []) spot_of (lexeme.Sign 18) refl (λ t _. says_nothing (some_spot (spot_of t)) refl))
says_minus false = says_second (minus ∷ []) (flag_given minus) (says_nothing no_spot refl)

same_enumerator : (x : Name) (b : Bool) (n : ℕ) (e : Enumerator) → bare_name x ≡ bare_name e.name → b ≡ e.negative → n ≡ e.value
    → (let d : Enumerator = record { name = bare_name x; negative = b; value = n } in d) ≡ bare_enumerator e
same_enumerator x b n e p q r = λ i. record { name = p i; negative = q i; value = r i }

reads_enumerator : (e : Enumerator) (margin : List ℕ) → Spells enumerator (enumerator_laid e margin) (λ d. bare_enumerator d ≡ bare_enumerator e)
unfolding fixed layout.number headword
reads_enumerator e margin =
    says_line margin
    (says_then (says_name e.name.text)
    (λ x p. skips (32 ∷ [])
    (takes (equals ∷ []) (λ _. tt) (lexeme.Sign 11) refl
    (λ _ _. skips (32 ∷ [])
    (says_then (says_minus e.negative)
    (λ o q. takes (number ∷ []) number_of_token (lexeme.Number e.value Plain) refl
    (λ t d. takes (comma ∷ []) (λ _. tt) (lexeme.Sign 6) refl
    (λ _ _. says_nothing (enumerator_of x o (number_of_token t)) (same_enumerator x (is_some o) (number_of_token t) e (name_same x e.name p) q (ap number_of_lexeme d))))))))))

more_enumerators : (es : List Enumerator) (margin : List ℕ) (before : List Enumerator)
    → Spells (turns kind names (λ _. true) one_more_enumerator before) (flat_map (λ (p : Laid). p margin) (map enumerator_laid es)) (λ r. map bare_enumerator r ≡ map bare_enumerator (before ++ es))
more_enumerators [] margin before = says_no_more bare_enumerator names (λ _. true) enumerator before
more_enumerators (e ∷ es) margin before =
    says_one_more bare_enumerator names (λ _. true) enumerator e es (enumerator_laid e margin) (flat_map (λ (p : Laid). p margin) (map enumerator_laid es)) (λ _. refl) (reads_enumerator e margin) (more_enumerators es margin) before

reads_enum : (limit : ℕ) (inner : Inner) (item_ : Grammar Token Item) (s : Spot) (note : Option (List ℕ)) (mods : Mods) (x : Name) (t : TypeForm) (es : List Enumerator) → inner.ranks ≡ limit
    → IsType limit t → DeclIsRead inner item_ (decl.Enum s note mods x t es)
unfolding fixed headword
reads_enum limit inner item_ s note mods x t es same h margin =
    says_like
    (says_then (says_modifiers mods)
    (λ m e. says_second body_kinds (body_type inner item_ m) (says_first (kw_enum ∷ []) (delegate_type inner.ranks m)
    (takes (kw_enum ∷ []) spot_of (lexeme.Keyword 19) refl
    (λ at _. skips (32 ∷ [])
    (says_then (says_name x.text)
    (λ z q. skips (32 ∷ [])
    (takes (colon ∷ []) (λ _. tt) (lexeme.Sign 8) refl
    (λ _ _. skips (32 ∷ [])
    (says_then (says_type inner.ranks t (known limit inner t same h))
    (λ u k. says_line_front margin (fixed part.OpenBrace) (flat_map (λ (p : Laid). p (deeper margin)) (map enumerator_laid es) ++ line margin (fixed part.CloseBrace))
    (takes (brace ∷ []) (λ _. tt) (lexeme.Sign 0) refl
    (λ _ _. says_then (more_enumerators es (deeper margin) [])
    (λ ds w. says_line margin
    (takes (unbrace ∷ []) (λ _. tt) (lexeme.Sign 1) refl
    (λ _ _. says_nothing (enum_of m (spot_of at) z u ds)
    (bare_Enum _ None m.mods z u ds
    ∙ ((let n = name_same z x q in let p = same_type t u k in λ i. decl.Enum nowhere None (e i) (n i) (p i) (w i)) ∙ sym (bare_Enum s note mods x t es)))))))))))))))))))
    (ap (λ g. lexemes (g margin)) (shown_Enum s note mods x t es)
    ∙ (behind_note note margin (line margin (enum_head mods x t) ++ between (each (map enumerator_laid es)) margin)
    ∙ (line_front margin (enum_head mods x t) (between (each (map enumerator_laid es)) margin)
    ∙ ap lexemes
    (append_assoc (mods_pieces mods) (headword begin.Enum ++ (name x.text ++ (fixed part.Otherwise ++ layout.type_pieces t))) (between (each (map enumerator_laid es)) margin)
    ∙ ap (λ z. mods_pieces mods ++ (headword begin.Enum ++ z)) (append_assoc (name x.text) (fixed part.Otherwise ++ layout.type_pieces t) (between (each (map enumerator_laid es)) margin))))))

-- delegates

says_result : (limit : ℕ) (r : Option TypeForm) → IsResult limit r → Spells (result limit) (result_pieces r) (λ o. option_map bare_type o ≡ option_map bare_type r)
unfolding fixed headword
says_result limit None h = says_first (kw_void ∷ []) (typed_result limit) (takes (kw_void ∷ []) (λ _. tt) (lexeme.Keyword 74) refl (λ _ _. skips (32 ∷ []) (says_nothing no_type refl)))
says_result limit (Some t) h =
    says_second (kw_void ∷ []) void_result (says_then (says_type limit t h) (λ u k. skips (32 ∷ []) (says_nothing (some_type u) (ap Some (same_type t u k)))))

reads_delegate : (limit : ℕ) (inner : Inner) (item_ : Grammar Token Item) (s : Spot) (note : Option (List ℕ)) (mods : Mods) (r : Option TypeForm) (x : Name) (ps : List Param) → inner.ranks ≡ limit
    → IsResult limit r → All (IsParam limit) ps → DeclIsRead inner item_ (decl.Delegate s note mods r x ps)
unfolding fixed headword
reads_delegate limit inner item_ s note mods r x ps same h y margin =
    says_like
    (says_then (says_modifiers mods)
    (λ m e. says_second body_kinds (body_type inner item_ m) (says_second (kw_enum ∷ []) (enum_type inner.ranks m)
    (takes (kw_delegate ∷ []) spot_of (lexeme.Keyword 15) refl
    (λ at _. skips (32 ∷ [])
    (says_then (says_result inner.ranks r (subst (λ l. IsResult l r) (sym same) h))
    (λ o d. says_then (says_name x.text)
    (λ z q. says_then (says_params inner.ranks ps (known_params limit inner ps same y))
    (λ qs w. takes (semicolon ∷ []) (λ _. tt) (lexeme.Sign 7) refl
    (λ _ _. says_nothing (delegate_of m (spot_of at) o z qs)
    (bare_Delegate _ None m.mods o z qs
    ∙ ((let n = name_same z x q in λ i. decl.Delegate nowhere None (e i) (d i) (n i) (w i)) ∙ sym (bare_Delegate s note mods r x ps)))))))))))))
    (ap (λ g. lexemes (g margin)) (shown_Delegate s note mods r x ps) ∙ (behind_note note margin (line margin (delegate_head mods r x ps)) ∙ line_is margin (delegate_head mods r x ps)))

-- what stands in a type

type_in : (inner : Inner) (below_ : Grammar Token Item) (d : Decl) (ps : List Piece) → Spells (bind modifiers (type_behind inner below_)) ps (λ c. bare_decl c ≡ bare_decl d)
    → Spells (item_in true inner below_) ps (λ i. bare_item i ≡ bare_item (item.Type d))
type_in inner below_ d ps x =
    says_in {g = bind (bind modifiers (type_behind inner below_)) (λ c. gives (item.Type c))}
    (λ ts i rest p v. (v.2.0, v.2.1, v.2.2, inl (v.0, v.1, v.2.3, v.3)))
    (says_made (λ c. item.Type c) x (λ c e. bare_type_item c ∙ (ap (λ z. item.Type z) e ∙ sym (bare_type_item d))))

member_in : (m : Member) (i : Item) → IsMemberAs m i → bare_item i ≡ bare_item (item.Member m)
member_in m i p = ap bare_item p.1 ∙ (bare_member_item p.0 ∙ (ap (λ z. item.Member z) p.2 ∙ sym (bare_member_item m)))

mutual
  decl_read : (levels limit blocks nesting : ℕ) (d : Decl) (n : ℕ) → IsDecl levels limit blocks d n → n ≤ nesting → DeclIsRead (inside levels limit blocks) (item_at (inside levels limit blocks) nesting) d
  decl_read levels limit blocks nesting _ _ (IsDecl.body s note mods k x ts items n a b c) l =
      reads_body limit (inside levels limit blocks) (item_at (inside levels limit blocks) nesting) s note mods k x ts items (is_inside levels limit blocks).ranks b (items_read levels limit blocks nesting items n c l)
  decl_read levels limit blocks nesting _ _ (IsDecl.enum s note mods x t es a b c) l =
      reads_enum limit (inside levels limit blocks) (item_at (inside levels limit blocks) nesting) s note mods x t es (is_inside levels limit blocks).ranks b
  decl_read levels limit blocks nesting _ _ (IsDecl.delegate s note mods r x ps a b c) l =
      reads_delegate limit (inside levels limit blocks) (item_at (inside levels limit blocks) nesting) s note mods r x ps (is_inside levels limit blocks).ranks a c

  items_read : (levels limit blocks nesting : ℕ) (items : List Item) (n : ℕ) → AreItems levels limit blocks items n → n ≤ nesting → ItemsAreRead (item_at (inside levels limit blocks) nesting) items
  items_read levels limit blocks nesting _ _ AreItems.no_items l margin before = says_no_more bare_item item_kinds (λ _. true) (item_at (inside levels limit blocks) nesting) before
  items_read levels limit blocks nesting _ _ (AreItems.member_item m items n a b) l margin before =
      says_one_more bare_item item_kinds (λ _. true) (item_at (inside levels limit blocks) nesting) (item.Member m) items (item_laid (item.Member m) margin) (flat_map (λ (p : Laid). p margin) (map item_laid items)) (λ _. refl)
      (says_like (says_so (at_any levels limit blocks nesting m margin a) (member_in m)) (ap (λ g. lexemes (g margin)) (shown_member m)))
      (items_read levels limit blocks nesting items n b l margin) before
  items_read levels limit blocks zero _ _ (AreItems.type_item d items n k a b) l margin before = absurd (omega (arith, l))
  items_read levels limit blocks (suc nesting) _ _ (AreItems.type_item d items n k a b) l margin before =
      says_one_more bare_item item_kinds (λ _. true) (item_at (inside levels limit blocks) (suc nesting)) (item.Type d) items (item_laid (item.Type d) margin) (flat_map (λ (p : Laid). p margin) (map item_laid items)) (λ _. refl)
      (says_like (type_in (inside levels limit blocks) (item_at (inside levels limit blocks) nesting) d (decl_laid d margin) (decl_read levels limit blocks nesting d n a (omega (arith, l)) margin)) (ap (λ g. lexemes (g margin)) (shown_type d)))
      (items_read levels limit blocks (suc nesting) items k b (omega (arith, l)) margin) before

-- namespaces

more_steps : (before : Path) (texts : List (List ℕ)) → Spells (turns kind (dot ∷ []) (λ _. true) one_more_step before) (layout.more_names texts) (λ r. r.names ≡ before.names ++ texts)
unfolding fixed
more_steps before [] = says_no_round (dot ∷ []) (λ _. true) one_more_step before (sym (append-nil before.names))
more_steps before (text ∷ texts) =
    says_round {R = λ r. r.names ≡ before.names ++ text ∷ []} {ps = layout.dotted text} (dot ∷ []) (λ _. true) one_more_step before refl
    (takes (dot ∷ []) (λ _. tt) (lexeme.Sign 9) refl (λ _ _. says_made (λ n. path_more before n) (says_name_text text) (λ n e. ap (λ m. before.names ++ m ∷ []) e)))
    (λ r e. says_so (more_steps r texts) (λ q d. d ∙ (ap (λ z. z ++ texts) e ∙ append_assoc before.names (text ∷ []) texts)))

says_place_path : (p : Path) → IsPath p.names → Spells placed_path (layout.path p.names) (λ r. r.names ≡ p.names)
says_place_path p h = go p.names h
  where
    go : (texts : List (List ℕ)) → IsPath texts → Spells placed_path (layout.path texts) (λ r. r.names ≡ texts)
    go [] h = absurd h
    go (text ∷ texts) h = says_then (says_name text) (λ x e. says_so (more_steps (path_first x) texts) (λ r d. d ∙ ap (λ z. z ∷ texts) e))

one_decl : (levels limit blocks nesting : ℕ) (d : Decl) → IsWellFormedDecl levels limit blocks nesting d → DeclIsRead (inside levels limit blocks) (item_at (inside levels limit blocks) nesting) d
one_decl levels limit blocks nesting d w = decl_read levels limit blocks nesting d w.0 w.1 w.2

more_decls : (levels limit blocks nesting : ℕ) (ds : List Decl) (margin : List ℕ) → All (IsWellFormedDecl levels limit blocks nesting) ds → (before : List Decl)
    → Spells (turns kind decl_kinds (λ _. true) (one_more_type (type_at (inside levels limit blocks) nesting)) before) (flat_map (λ (p : Laid). p margin) (map decl_laid ds)) (λ r. map bare_decl r ≡ map bare_decl (before ++ ds))
more_decls levels limit blocks nesting [] margin w before = says_no_more bare_decl decl_kinds (λ _. true) (type_at (inside levels limit blocks) nesting) before
more_decls levels limit blocks nesting (d ∷ ds) margin w before =
    says_one_more bare_decl decl_kinds (λ _. true) (type_at (inside levels limit blocks) nesting) d ds (decl_laid d margin) (flat_map (λ (p : Laid). p margin) (map decl_laid ds)) (λ _. refl)
    (one_decl levels limit blocks nesting d (all_first (IsWellFormedDecl levels limit blocks nesting) d ds w) margin)
    (more_decls levels limit blocks nesting ds margin (all_others (IsWellFormedDecl levels limit blocks nesting) d ds w)) before

space_read : (levels limit blocks nesting : ℕ) (c : Space) (margin : List ℕ) → IsWellFormedSpace levels limit blocks nesting c
    → Spells (one_space (type_at (inside levels limit blocks) nesting)) (space_laid c margin) (λ r. bare_space r ≡ bare_space c)
unfolding fixed headword
space_read levels limit blocks nesting (space.Type d) margin w =
    says_second (kw_namespace ∷ []) (of_namespace (type_at (inside levels limit blocks) nesting))
    (says_made (λ c. space.Type c) (one_decl levels limit blocks nesting d w margin) (λ c e. ap (λ z. space.Type z) e))
space_read levels limit blocks nesting (space.Namespace s note p ds) margin w =
    says_first (kw_namespace ∷ []) (of_type (type_at (inside levels limit blocks) nesting))
    (says_like
    (takes (kw_namespace ∷ []) spot_of (lexeme.Keyword 39) refl
    (λ at _. skips (32 ∷ [])
    (says_then (says_place_path p w.0)
    (λ q e. says_line_front margin (fixed part.OpenBrace) (flat_map (λ (p : Laid). p (deeper margin)) (map decl_laid ds) ++ line margin (fixed part.CloseBrace))
    (takes (brace ∷ []) (λ _. tt) (lexeme.Sign 0) refl
    (λ _ _. says_then (more_decls levels limit blocks nesting ds (deeper margin) w.1 [])
    (λ rs d. says_line margin
    (takes (unbrace ∷ []) (λ _. tt) (lexeme.Sign 1) refl
    (λ _ _. says_nothing (namespace_of (spot_of at) q rs)
    (λ i. space.Namespace nowhere None (record { spot = nowhere; names = e i }) (d i)))))))))))
    (behind_note note margin (line margin (headword begin.Namespace ++ layout.path p.names) ++ between (each (map decl_laid ds)) margin)
    ∙ line_front margin (headword begin.Namespace ++ layout.path p.names) (between (each (map decl_laid ds)) margin)))

more_spaces : (levels limit blocks nesting : ℕ) (cs : List Space) → All (IsWellFormedSpace levels limit blocks nesting) cs → (before : List Space)
    → Spells (turns kind (kw_namespace ∷ decl_kinds) (λ _. true) (one_more_space (type_at (inside levels limit blocks) nesting)) before) (flat_map (λ (p : Laid). p []) (map space_laid cs)) (λ r. map bare_space r ≡ map bare_space (before ++ cs))
more_spaces levels limit blocks nesting [] w before = says_no_more bare_space (kw_namespace ∷ decl_kinds) (λ _. true) (one_space (type_at (inside levels limit blocks) nesting)) before
more_spaces levels limit blocks nesting (c ∷ cs) w before =
    says_one_more bare_space (kw_namespace ∷ decl_kinds) (λ _. true) (one_space (type_at (inside levels limit blocks) nesting)) c cs (space_laid c []) (flat_map (λ (p : Laid). p []) (map space_laid cs)) (λ _. refl)
    (space_read levels limit blocks nesting c [] (all_first (IsWellFormedSpace levels limit blocks nesting) c cs w))
    (more_spaces levels limit blocks nesting cs (all_others (IsWellFormedSpace levels limit blocks nesting) c cs w)) before

-- whole texts

assembly_is : (a : Option (List ℕ)) → lexemes (assembly_pieces a) ≡ []
unfolding assembly_note noted fixed
assembly_is None = refl
assembly_is (Some text) = refl

pub texts_back : TextsAreReadBack
texts_back levels limit blocks nesting u some more w =
    read_back {ps = unit_laid u} (has_one_unit levels limit blocks nesting some more)
    (says_like
    (says_made unit_of (more_spaces levels limit blocks nesting u.spaces w []) (λ r e. λ i. record { assembly = None; spaces = e i }))
    (lexemes-append (assembly_pieces u.assembly) (each (map space_laid u.spaces) []) ∙ ap (λ z. z ++ lexemes (each (map space_laid u.spaces) [])) (assembly_is u.assembly)))
