-- Types are read, each where what stands in it is.
use Rattle.std.proofs.Common.{◌≡◌, ℕ, true, List, [], ◌∷◌, ◌++◌, map, All, Option, None, refl, sym, ◌∙◌, ap, subst}
use Rattle.std.specs.Option.{option_map}
use Rattle.std.specs.List.{flat_map}
use Rattle.std.proofs.lemmas.List.{append-nil, append_assoc, map-append}
use Rattle.cs_token.specs.Placed.{Placed as Token}
use Rattle.cs_token.specs.Tokens.{kind_of}
use Rattle.cs_token.specs.declared.lexeme.Lexeme.TheVariants as lexeme
use Rattle.cs_tree.specs.declared.types.Spot.{Spot}
use Rattle.cs_tree.specs.declared.types.Name.{Name}
use Rattle.cs_tree.specs.declared.types.TypeForm.{TypeForm}
use Rattle.cs_tree.specs.declared.types.Param.{Param}
use Rattle.cs_tree.specs.declared.members.Mods.{Mods}
use Rattle.cs_tree.specs.declared.members.Member.{Member}
use Rattle.cs_tree.specs.declared.declarations.Kind.{Kind}
use Rattle.cs_tree.specs.declared.declarations.Kind.TheVariants.{Class, Interface, Struct}
use Rattle.cs_tree.specs.declared.declarations.Enumerator.{Enumerator}
use Rattle.cs_tree.specs.declared.declarations.Item.{Item}
use Rattle.cs_tree.specs.declared.declarations.Item.TheVariants as item
use Rattle.cs_tree.specs.declared.declarations.Decl.{Decl}
use Rattle.cs_tree.specs.declared.declarations.Decl.TheVariants as decl
use Rattle.cs_tree.specs.declared.declarations.Decl.TheOpen.{Decl-F, Item-F}
use Rattle.cs_tree.specs.declared.declarations.Decl.TheFolds.{fold-Item, fold-roll-Decl, fold-roll-Item}
use Rattle.cs_tree.specs.Bare.{nowhere, bare_name, bare_type, bare_param}
use Rattle.cs_tree.specs.BareUnits as bare
use Rattle.cs_tree.specs.BareUnits.{bare_member, bare_enumerator, bare_decl}
use Rattle.cs_grammar.specs.Grammar.{Grammar, gives, one, bind, either, turns}
use Rattle.cs_productions.specs.Kinds.{brace, unbrace, comma, colon, kw_enum}
use Rattle.cs_productions.specs.Tokens.{kind}
use Rattle.cs_productions.specs.Inner.{Inner}
use Rattle.cs_units.specs.Kinds.{body_kinds, item_kinds}
use Rattle.cs_units.specs.Modifiers.{modifiers}
use Rattle.cs_units.specs.Declarations.{no_bases, first_base, one_more_base, given_bases, bases, kind_of_body, one_more_item, body_of, enum_type, delegate_type, type_behind}
use Rattle.cs_layout.specs.Pieces.{Piece, gap, token}
use Rattle.cs_layout.specs.declared.fixed.Fixed.TheVariants as part
use Rattle.cs_layout.specs.Words as layout
use Rattle.cs_layout.specs.Words.{fixed, name}
use Rattle.cs_layout.specs.Layout.{Laid, line, deeper}
use Rattle.cs_unit_layout.specs.Heads.{headword, mods_pieces, kind_pieces, bases_pieces}
use Rattle.cs_unit_layout.specs.Members.{member_laid}
use Rattle.cs_unit_layout.specs.Units.{between, each, body_head, decl_layer, item_layer, decl_laid, item_laid}
use Rattle.cs_wellformed.specs.Words.{IsType}
use Rattle.cs_roundtrip_types.specs.Spells.{lexemes, Spells}
use Rattle.cs_roundtrip_types.proofs.Spelling.{says_nothing, skips, takes, says_then, says_made, says_so, says_like, says_first, says_second, says_no_round, says_round}
use Rattle.cs_roundtrip_types.proofs.Types.{all_first, all_others, same_type, says_name, says_type}
use Rattle.cs_roundtrip_statements.proofs.Lines.{line_front, says_line, says_line_front}
use Rattle.cs_roundtrip_members.proofs.Heads.{says_modifiers}
use Rattle.cs_roundtrip_members.proofs.Members.{behind_note, name_same}

-- what each type is printed as, and what it is without its places

abbrev pub bare_item : Item → Item
bare_item = fold-Item Decl Item bare.decl_layer bare.item_layer

pub shown_Body : (s : Spot) (note : Option (List ℕ)) (mods : Mods) (k : Kind) (x : Name) (ts : List TypeForm) (items : List Item)
    → decl_laid (decl.Body s note mods k x ts items) ≡ decl_layer (Decl-F.Body s note mods k x ts (map item_laid items))
shown_Body s note mods k x ts items = ap decl_laid (sym (decl.rolls-Body s note mods k x ts items)) ∙ fold-roll-Decl Laid Laid decl_layer item_layer (Decl-F.Body s note mods k x ts items)

pub shown_Enum : (s : Spot) (note : Option (List ℕ)) (mods : Mods) (x : Name) (t : TypeForm) (es : List Enumerator) → decl_laid (decl.Enum s note mods x t es) ≡ decl_layer (Decl-F.Enum s note mods x t es)
shown_Enum s note mods x t es = ap decl_laid (sym (decl.rolls-Enum s note mods x t es)) ∙ fold-roll-Decl Laid Laid decl_layer item_layer (Decl-F.Enum s note mods x t es)

pub shown_Delegate : (s : Spot) (note : Option (List ℕ)) (mods : Mods) (r : Option TypeForm) (x : Name) (ps : List Param)
    → decl_laid (decl.Delegate s note mods r x ps) ≡ decl_layer (Decl-F.Delegate s note mods r x ps)
shown_Delegate s note mods r x ps = ap decl_laid (sym (decl.rolls-Delegate s note mods r x ps)) ∙ fold-roll-Decl Laid Laid decl_layer item_layer (Decl-F.Delegate s note mods r x ps)

bare_Body : (s : Spot) (note : Option (List ℕ)) (mods : Mods) (k : Kind) (x : Name) (ts : List TypeForm) (items : List Item)
    → bare_decl (decl.Body s note mods k x ts items) ≡ decl.Body nowhere None mods k (bare_name x) (map bare_type ts) (map bare_item items)
bare_Body s note mods k x ts items = ap bare_decl (sym (decl.rolls-Body s note mods k x ts items)) ∙ fold-roll-Decl Decl Item bare.decl_layer bare.item_layer (Decl-F.Body s note mods k x ts items)

pub bare_Enum : (s : Spot) (note : Option (List ℕ)) (mods : Mods) (x : Name) (t : TypeForm) (es : List Enumerator)
    → bare_decl (decl.Enum s note mods x t es) ≡ decl.Enum nowhere None mods (bare_name x) (bare_type t) (map bare_enumerator es)
bare_Enum s note mods x t es = ap bare_decl (sym (decl.rolls-Enum s note mods x t es)) ∙ fold-roll-Decl Decl Item bare.decl_layer bare.item_layer (Decl-F.Enum s note mods x t es)

pub bare_Delegate : (s : Spot) (note : Option (List ℕ)) (mods : Mods) (r : Option TypeForm) (x : Name) (ps : List Param)
    → bare_decl (decl.Delegate s note mods r x ps) ≡ decl.Delegate nowhere None mods (option_map bare_type r) (bare_name x) (map bare_param ps)
bare_Delegate s note mods r x ps = ap bare_decl (sym (decl.rolls-Delegate s note mods r x ps)) ∙ fold-roll-Decl Decl Item bare.decl_layer bare.item_layer (Decl-F.Delegate s note mods r x ps)

pub shown_member : (m : Member) → item_laid (item.Member m) ≡ member_laid m
shown_member m = ap item_laid (sym (item.rolls-Member m)) ∙ fold-roll-Item Laid Laid decl_layer item_layer (Item-F.Member m)

pub shown_type : (d : Decl) → item_laid (item.Type d) ≡ decl_laid d
shown_type d = ap item_laid (sym (item.rolls-Type d)) ∙ fold-roll-Item Laid Laid decl_layer item_layer (Item-F.Type d)

pub bare_member_item : (m : Member) → bare_item (item.Member m) ≡ item.Member (bare_member m)
bare_member_item m = ap bare_item (sym (item.rolls-Member m)) ∙ fold-roll-Item Decl Item bare.decl_layer bare.item_layer (Item-F.Member m)

pub bare_type_item : (d : Decl) → bare_item (item.Type d) ≡ item.Type (bare_decl d)
bare_type_item d = ap bare_item (sym (item.rolls-Type d)) ∙ fold-roll-Item Decl Item bare.decl_layer bare.item_layer (Item-F.Type d)

-- types behind a name

pub known : (limit : ℕ) (inner : Inner) (t : TypeForm) → inner.ranks ≡ limit → IsType limit t → IsType inner.ranks t
known limit inner t e h = subst (λ r. IsType r t) (sym e) h

more_bases : (limit : ℕ) (ts before : List TypeForm) → All (IsType limit) ts
    → Spells (turns kind (comma ∷ []) (λ _. true) (one_more_base limit) before) (layout.more_listed (map layout.type_pieces ts)) (λ r. map bare_type r ≡ map bare_type (before ++ ts))
unfolding fixed
more_bases limit [] before h = says_no_round (comma ∷ []) (λ _. true) (one_more_base limit) before (ap (map bare_type) (sym (append-nil before)))
more_bases limit (t ∷ ts) before h =
    says_like
    (says_round {R = λ mid. map bare_type mid ≡ map bare_type (before ++ t ∷ [])} {ps = token (lexeme.Sign 6) ∷ gap (32 ∷ []) ∷ layout.type_pieces t} (comma ∷ []) (λ _. true) (one_more_base limit) before refl
    (takes (comma ∷ []) (λ _. tt) (lexeme.Sign 6) refl
    (λ _ _. skips (32 ∷ [])
    (says_made (λ u. before ++ u ∷ []) (says_type limit t (all_first (IsType limit) t ts h))
    (λ u k. map-append bare_type before (u ∷ []) ∙ (ap (λ z. map bare_type before ++ z ∷ []) (same_type t u k) ∙ sym (map-append bare_type before (t ∷ [])))))))
    (λ mid e. says_so (more_bases limit ts mid (all_others (IsType limit) t ts h))
    (λ r d. d ∙ (map-append bare_type mid ts ∙ (ap (λ z. z ++ map bare_type ts) e ∙ (sym (map-append bare_type (before ++ t ∷ []) ts) ∙ ap (map bare_type) (append_assoc before (t ∷ []) ts)))))))
    refl

says_bases : (limit : ℕ) (ts : List TypeForm) → All (IsType limit) ts → Spells (bases limit) (bases_pieces ts) (λ r. map bare_type r ≡ map bare_type ts)
unfolding fixed
says_bases limit [] h = says_second (colon ∷ []) (given_bases limit) (says_nothing no_bases refl)
says_bases limit (t ∷ ts) h =
    says_first (colon ∷ []) (gives no_bases)
    (skips (32 ∷ [])
    (takes (colon ∷ []) (λ _. tt) (lexeme.Sign 8) refl
    (λ _ _. skips (32 ∷ [])
    (says_then (says_type limit t (all_first (IsType limit) t ts h))
    (λ u k. says_so (more_bases limit ts (first_base u) (all_others (IsType limit) t ts h)) (λ r d. d ∙ ap (λ z. z ∷ map bare_type ts) (same_type t u k)))))))

-- the words that say what a type is

kind_word : Kind → ℕ
kind_word Class = 10
kind_word Interface = 34
kind_word Struct = 60

kind_takes : {A : Type 0} {P : A → Type 0} {ps : List Piece} {f : Token → Grammar Token A} (k : Kind) → ((t : Token) → kind_of_body (kind t) ≡ k → Spells (f t) ps P)
    → Spells (bind (one kind body_kinds (λ t. t)) f) (kind_pieces k ++ ps) P
unfolding headword
kind_takes Class x = takes body_kinds (λ t. t) (lexeme.Keyword 10) refl (λ t e. skips (32 ∷ []) (x t (ap (λ l. kind_of_body (kind_of l)) e)))
kind_takes Interface x = takes body_kinds (λ t. t) (lexeme.Keyword 34) refl (λ t e. skips (32 ∷ []) (x t (ap (λ l. kind_of_body (kind_of l)) e)))
kind_takes Struct x = takes body_kinds (λ t. t) (lexeme.Keyword 60) refl (λ t e. skips (32 ∷ []) (x t (ap (λ l. kind_of_body (kind_of l)) e)))

-- a type behind its modifiers, its margin and its note

abbrev pub DeclIsRead : Inner → Grammar Token Item → Decl → Type 0
DeclIsRead inner item_ d = (margin : List ℕ) → Spells (bind modifiers (type_behind inner item_)) (decl_laid d margin) (λ c. bare_decl c ≡ bare_decl d)

abbrev pub ItemsAreRead : Grammar Token Item → List Item → Type 0
ItemsAreRead item_ items =
    (margin : List ℕ) (before : List Item) → Spells (turns kind item_kinds (λ _. true) (one_more_item item_) before) (flat_map (λ (p : Laid). p margin) (map item_laid items))
    (λ r. map bare_item r ≡ map bare_item (before ++ items))

pub reads_body : (limit : ℕ) (inner : Inner) (item_ : Grammar Token Item) (s : Spot) (note : Option (List ℕ)) (mods : Mods) (k : Kind) (x : Name) (ts : List TypeForm) (items : List Item) → inner.ranks ≡ limit
    → All (IsType limit) ts → ItemsAreRead item_ items → DeclIsRead inner item_ (decl.Body s note mods k x ts items)
unfolding fixed
reads_body limit inner item_ s note mods k x ts items same h y margin =
    says_like
    (says_then (says_modifiers mods)
    (λ m e. says_first body_kinds (either kind (kw_enum ∷ []) (enum_type inner.ranks m) (delegate_type inner.ranks m))
    (kind_takes k
    (λ t d. says_then (says_name x.text)
    (λ z q. says_then (says_bases inner.ranks ts (subst (λ r. All (IsType r) ts) (sym same) h))
    (λ us p. says_line_front margin (fixed part.OpenBrace) (flat_map (λ (p : Laid). p (deeper margin)) (map item_laid items) ++ line margin (fixed part.CloseBrace))
    (takes (brace ∷ []) (λ _. tt) (lexeme.Sign 0) refl
    (λ _ _. says_then (y (deeper margin) [])
    (λ is w. says_line margin
    (takes (unbrace ∷ []) (λ _. tt) (lexeme.Sign 1) refl
    (λ _ _. says_nothing (body_of m t z us is)
    (bare_Body _ None m.mods (kind_of_body (kind t)) z us is
    ∙ ((let n = name_same z x q in λ i. decl.Body nowhere None (e i) (d i) (n i) (p i) (w i)) ∙ sym (bare_Body s note mods k x ts items))))))))))))))
    (ap (λ g. lexemes (g margin)) (shown_Body s note mods k x ts items)
    ∙ (behind_note note margin (line margin (body_head mods k x ts) ++ between (each (map item_laid items)) margin)
    ∙ (line_front margin (body_head mods k x ts) (between (each (map item_laid items)) margin)
    ∙ ap lexemes
    (append_assoc (mods_pieces mods) (kind_pieces k ++ (name x.text ++ bases_pieces ts)) (between (each (map item_laid items)) margin)
    ∙ ap (λ z. mods_pieces mods ++ z)
    (append_assoc (kind_pieces k) (name x.text ++ bases_pieces ts) (between (each (map item_laid items)) margin)
    ∙ ap (λ z. kind_pieces k ++ z) (append_assoc (name x.text) (bases_pieces ts) (between (each (map item_laid items)) margin)))))))
