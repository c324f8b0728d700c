-- Methods, constructors and accessors are read.
use Rattle.std.proofs.Common.{◌≡◌, inr, ℕ, ◌&&◌, true, false, List, [], ◌∷◌, ◌++◌, All, Option, Some, None, refl, ◌∙◌, ap, codes, arith}
use Rattle.std.specs.Option.{option_map}
use Rattle.std.proofs.lemmas.List.{append_assoc}
use Rattle.cs_token.specs.Tokens.{kind_of}
use Rattle.cs_token.specs.declared.lexeme.Lexeme.TheVariants as lexeme
use Rattle.cs_tree.specs.declared.types.Spot.{Spot}
use Rattle.cs_tree.specs.declared.types.Name.{Name}
use Rattle.cs_tree.specs.declared.types.TypeForm.{TypeForm}
use Rattle.cs_tree.specs.declared.types.Param.{Param}
use Rattle.cs_tree.specs.declared.forms.Block.{Block}
use Rattle.cs_tree.specs.declared.members.Mods.{Mods}
use Rattle.cs_tree.specs.declared.members.Initial.{Initial}
use Rattle.cs_tree.specs.declared.members.Initial.TheVariants as initial
use Rattle.cs_tree.specs.declared.members.Accessor.{Accessor}
use Rattle.cs_tree.specs.declared.members.Member.TheVariants as member
use Rattle.cs_tree.specs.Bare.{nowhere, bare_name}
use Rattle.cs_tree.specs.BareUnits.{bare_initial, bare_accessor}
use Rattle.cs_grammar.specs.Kinds.{has}
use Rattle.cs_grammar.specs.Grammar.{bind, either, choice}
use Rattle.cs_productions.specs.Kinds.{global, getter, setter, indexer, brace, unbrace, paren, semicolon, bracket, unbracket, colon, equals, keyword_types, kw_base, kw_this, kw_void, kw_operator}
use Rattle.cs_productions.specs.Tokens.{kind, spot_of, name_of}
use Rattle.cs_productions.specs.Inner.{Inner}
use Rattle.cs_units.specs.Kinds.{maker_names}
use Rattle.cs_units.specs.declared.values.Marked.{Marked}
use Rattle.cs_units.specs.declared.values.Accessors.{Accessors}
use Rattle.cs_units.specs.Modifiers.{modifiers, unmarked, only_static, start}
use Rattle.cs_units.specs.Members.{are_none, field, method, accessor_of, accessor, some_accessor, no_accessor, accessors_of, without_setter, with_setter, behind_getter, first_accessor, accessors, property_of, constant, operator, base_first, this_first, by_base, by_this, constructor_of, constructor, initializer_of, initializer, maker, indexer_of, constructing, keyword_member, global_member, named_member, void_method}
use Rattle.cs_layout.specs.Pieces.{Piece, token}
use Rattle.cs_layout.specs.declared.fixed.Fixed.TheVariants as part
use Rattle.cs_layout.specs.Words.{fixed, name}
use Rattle.cs_layout.specs.Layout.{line, indent, deeper, typed}
use Rattle.cs_unit_layout.specs.declared.headwords.Headword.{Headword}
use Rattle.cs_unit_layout.specs.declared.headwords.Headword.TheVariants as begin
use Rattle.cs_unit_layout.specs.Heads.{headword, mods_pieces, params_pieces, note_pieces}
use Rattle.cs_unit_layout.specs.Members.{block_behind, body_behind, initial_pieces, constructor_laid, initializer_laid, accessor_laid, accessors_laid, property_head, property_laid, indexer_head}
use Rattle.cs_wellformed.specs.Words.{IsType, IsParam}
use Rattle.cs_wellformed.specs.WellFormed.{IsWellFormedBlock}
use Rattle.cs_roundtrip_types.specs.Spells.{lexemes, Spells}
use Rattle.cs_roundtrip_types.proofs.Spelling.{says_nothing, skips, takes, says_then, says_made, says_like, says_in, says_first, says_second}
use Rattle.cs_roundtrip_types.proofs.Types.{SameParams}
use Rattle.cs_roundtrip_statements.proofs.Lines.{line_front, says_line, says_line_front, says_braced}
use Rattle.cs_roundtrip_members.specs.Members.{IsBody, IsAccessor, IsInitial}
use Rattle.cs_roundtrip_members.specs.Inside.{IsInside}
use Rattle.cs_roundtrip_members.proofs.Heads.{says_modifiers, says_no_modifiers, says_params, says_body}
use Rattle.cs_roundtrip_members.proofs.Members.{behind_note, choice_first, choice_second, known_params, typed_then, member_typed, member_name, name_same, SameMember, MemberIsRead}

-- constructors

constructor_rest : (levels limit blocks : ℕ) (inner : Inner) (s : Spot) (note : Option (List ℕ)) (mods : Mods) (x : Name) (params : List Param) (f : Initial) (b : Block) (margin : List ℕ) (m : Marked) (y : Name) (ps : List Param)
    → IsInside levels limit blocks inner → IsInitial levels limit blocks f → IsWellFormedBlock levels limit blocks b → m.mods ≡ mods → bare_name y ≡ bare_name x → SameParams params ps
    → Spells (constructor inner m y ps) (initial_pieces f margin ++ block_behind b margin) (SameMember (member.Constructor s note mods x params f b))
unfolding fixed headword
constructor_rest levels limit blocks inner s note mods x params (initial.Base args) b margin m y ps inside h k e q d =
    skips (32 ∷ [])
    (takes (colon ∷ []) (λ _. tt) (lexeme.Sign 8) refl
    (λ _ _. skips (32 ∷ [])
    (says_then {ps = token (lexeme.Keyword 2) ∷ _} (says_first (kw_base ∷ []) (by_this inner)
    (takes (kw_base ∷ []) (λ _. tt) (lexeme.Keyword 2) refl (λ _ _. says_made {Q = λ g. bare_initial g ≡ bare_initial (initial.Base args)} base_first (inside.args args margin h) (λ r z. ap initial.Base z))))
    (λ g z. skips (10 ∷ []) (says_made (constructor_of m y ps g) (says_braced b margin (inside.bodies b k)) (λ c w. λ i. member.Constructor nowhere None (e i) (q i) (d i) (z i) (w i)))))))
constructor_rest levels limit blocks inner s note mods x params (initial.This args) b margin m y ps inside h k e q d =
    skips (32 ∷ [])
    (takes (colon ∷ []) (λ _. tt) (lexeme.Sign 8) refl
    (λ _ _. skips (32 ∷ [])
    (says_then {ps = token (lexeme.Keyword 62) ∷ _} (says_second (kw_base ∷ []) (by_base inner)
    (takes (kw_this ∷ []) (λ _. tt) (lexeme.Keyword 62) refl (λ _ _. says_made {Q = λ g. bare_initial g ≡ bare_initial (initial.This args)} this_first (inside.args args margin h) (λ r z. ap initial.This z))))
    (λ g z. skips (10 ∷ []) (says_made (constructor_of m y ps g) (says_braced b margin (inside.bodies b k)) (λ c w. λ i. member.Constructor nowhere None (e i) (q i) (d i) (z i) (w i)))))))

-- three parts and what stands behind
regroup : (mods x ps rest : List Piece) → (mods ++ (x ++ ps)) ++ rest ≡ mods ++ (x ++ (ps ++ rest))
regroup mods x ps rest = append_assoc mods (x ++ ps) rest ∙ ap (λ z. mods ++ z) (append_assoc x ps rest)

pub reads_constructor : (levels limit blocks : ℕ) (inner : Inner) (s : Spot) (note : Option (List ℕ)) (mods : Mods) (x : Name) (params : List Param) (f : Initial) (b : Block) (margin : List ℕ) → IsInside levels limit blocks inner
    → All (IsParam limit) params → IsInitial levels limit blocks f → IsWellFormedBlock levels limit blocks b
    → MemberIsRead inner (member.Constructor s note mods x params f b) (note_pieces note margin ++ constructor_laid mods x params f b margin)
unfolding indent
reads_constructor levels limit blocks inner s note mods x params f b margin inside h k j =
    says_like
    (says_then (says_modifiers mods)
    (λ m e. member_name inner m x.text (params_pieces params ++ (initial_pieces f margin ++ block_behind b margin)) (SameMember (member.Constructor s note mods x params f b))
    (λ y q. says_then (says_params inner.ranks params (known_params limit inner params inside.ranks h))
    (λ ps d. says_first (colon ∷ []) (choice kind (only_static m.mods && are_none ps) (brace ∷ []) (initializer inner m y) (maker m y ps))
    (constructor_rest levels limit blocks inner s note mods x params f b margin m y ps inside k j e (name_same y x q) d)))))
    (behind_note note margin (constructor_laid mods x params f b margin) ∙ ap lexemes (regroup (mods_pieces mods) (name x.text) (params_pieces params) (initial_pieces f margin ++ block_behind b margin)))

-- static constructors

abbrev static_only : Mods
static_only =
    record { access = None; is_static = true; is_abstract = false; is_sealed = false; is_virtual = false; is_override = false; is_readonly = false; is_extern = false }

none_read : (qs : List Param) → SameParams [] qs → are_none qs ≡ true
none_read [] e = refl
none_read (q ∷ qs) e = absurd (cc)

-- accessors

abbrev SameAccessors : Option Accessor → Option Accessor → Accessors → Type 0
SameAccessors g s a = (option_map bare_accessor a.getter ≡ option_map bare_accessor g) × (option_map bare_accessor a.setter ≡ option_map bare_accessor s)

-- a word and what stands behind it
says_accessor : (levels limit blocks : ℕ) (inner : Inner) (word : ℕ) (text : List ℕ) (a : Accessor) (margin : List ℕ) (m : Marked) → has (word ∷ []) (kind_of (lexeme.Name text)) ≡ true → IsInside levels limit blocks inner
    → IsBody levels limit blocks a.block → m.mods ≡ a.mods → Spells (accessor inner word m) (token (lexeme.Name text) ∷ body_behind a.block margin) (λ c. bare_accessor c ≡ bare_accessor a)
says_accessor levels limit blocks inner word text a margin m is inside h e =
    takes (word ∷ []) spot_of (lexeme.Name text) is
    (λ t _. says_made (accessor_of m (spot_of t)) (says_body levels limit blocks inner a.block margin inside h) (λ c d. λ i. record { spot = nowhere; mods = e i; block = d i }))

accessor_pieces : (word : Piece) (h : Headword) (a : Accessor) (margin : List ℕ) (rest : List Piece) → headword h ≡ word ∷ []
    → lexemes (accessor_laid h (Some a) margin ++ rest) ≡ lexemes (mods_pieces a.mods ++ ((word ∷ body_behind a.block margin) ++ rest))
unfolding indent
accessor_pieces word h a margin rest e =
    ap (λ w. lexemes (((mods_pieces a.mods ++ w) ++ body_behind a.block margin) ++ rest)) e
    ∙ ap lexemes
    (append_assoc (mods_pieces a.mods ++ word ∷ []) (body_behind a.block margin) rest
    ∙ append_assoc (mods_pieces a.mods) (word ∷ []) (body_behind a.block margin ++ rest))

says_setter : (levels limit blocks : ℕ) (inner : Inner) (g got : Option Accessor) (s : Option Accessor) (margin : List ℕ) → option_map bare_accessor got ≡ option_map bare_accessor g → IsInside levels limit blocks inner
    → IsAccessor levels limit blocks s → Spells (bind modifiers (behind_getter inner got)) (accessor_laid begin.Set s (deeper margin) ++ line margin (fixed part.CloseBrace)) (SameAccessors g s)
unfolding fixed headword
says_setter levels limit blocks inner g got None margin e inside h =
    says_line margin
    (says_then {ps = []} says_no_modifiers
    (λ m z. choice_first (unmarked m) (unbrace ∷ []) (with_setter inner got m) z
    (takes (unbrace ∷ []) (λ _. tt) (lexeme.Sign 1) refl (λ _ _. says_nothing (accessors_of got no_accessor) (e, refl)))))
says_setter levels limit blocks inner g got (Some a) margin e inside h =
    says_like
    (says_then (says_modifiers a.mods)
    (λ m z. choice_second (unmarked m) (unbrace ∷ []) (without_setter got)
    (says_then (says_accessor levels limit blocks inner setter (codes "set") a (deeper margin) m refl inside h z)
    (λ c d. says_line margin
    (takes (unbrace ∷ []) (λ _. tt) (lexeme.Sign 1) refl (λ _ _. says_nothing (accessors_of got (some_accessor c)) (e, ap Some d)))))))
    (accessor_pieces (token (lexeme.Name (codes "set"))) begin.Set a (deeper margin) (line margin (fixed part.CloseBrace)) refl)

-- the first accessor, behind its modifiers
says_first_accessor : (levels limit blocks : ℕ) (inner : Inner) (g s : Option Accessor) (margin : List ℕ) → IsInside levels limit blocks inner → IsAccessor levels limit blocks g → IsAccessor levels limit blocks s
    → Spells (bind modifiers (first_accessor inner)) (accessor_laid begin.Get g (deeper margin) ++ (accessor_laid begin.Set s (deeper margin) ++ line margin (fixed part.CloseBrace))) (SameAccessors g s)
unfolding headword
says_first_accessor levels limit blocks inner None s margin inside h k =
    says_in (λ ts a rest p d. (d.0, d.1, d.2, inr d.3)) (says_setter levels limit blocks inner None no_accessor s margin refl inside k)
says_first_accessor levels limit blocks inner (Some a) s margin inside h k =
    says_like
    (says_then (says_modifiers a.mods)
    (λ m z. says_first (getter ∷ []) (behind_getter inner no_accessor m)
    (says_then (says_accessor levels limit blocks inner getter (codes "get") a (deeper margin) m refl inside h z)
    (λ c d. says_setter levels limit blocks inner (Some a) (some_accessor c) s margin (ap Some d) inside k))))
    (accessor_pieces (token (lexeme.Name (codes "get"))) begin.Get a (deeper margin) (accessor_laid begin.Set s (deeper margin) ++ line margin (fixed part.CloseBrace)) refl)

pub says_accessors : (levels limit blocks : ℕ) (inner : Inner) (g s : Option Accessor) (margin : List ℕ) → IsInside levels limit blocks inner → IsAccessor levels limit blocks g → IsAccessor levels limit blocks s
    → Spells (accessors inner) (accessors_laid g s margin) (SameAccessors g s)
unfolding fixed
says_accessors levels limit blocks inner g s margin inside h k =
    says_line_front margin (fixed part.OpenBrace) (accessor_laid begin.Get g (deeper margin) ++ (accessor_laid begin.Set s (deeper margin) ++ line margin (fixed part.CloseBrace)))
    (takes (brace ∷ []) (λ _. tt) (lexeme.Sign 0) refl (λ _ _. says_first_accessor levels limit blocks inner g s margin inside h k))

pub reads_property : (levels limit blocks : ℕ) (inner : Inner) (s : Spot) (note : Option (List ℕ)) (mods : Mods) (t : TypeForm) (x : Name) (g r : Option Accessor) (margin : List ℕ) → IsInside levels limit blocks inner
    → IsType limit t → IsAccessor levels limit blocks g → IsAccessor levels limit blocks r
    → MemberIsRead inner (member.Property s note mods t x g r) (note_pieces note margin ++ property_laid mods t x g r margin)
reads_property levels limit blocks inner s note mods t x g r margin inside h k j =
    says_like
    (says_then (says_modifiers mods)
    (λ m e. member_typed limit inner m t x (accessors_laid g r margin) (SameMember (member.Property s note mods t x g r)) inside.ranks h
    (λ u y p q. says_second (equals ∷ semicolon ∷ []) (field inner m u y)
    (says_second (paren ∷ []) (method inner (start m u.spot) m (Some u) None y)
    (says_made (property_of m u y) (says_accessors levels limit blocks inner g r margin inside k j) (λ a d. λ i. member.Property nowhere None (e i) (p i) (q i) (d.0 i) (d.1 i)))))))
    (behind_note note margin (property_laid mods t x g r margin)
    ∙ (line_front margin (property_head mods t x) (accessors_laid g r margin) ∙ ap lexemes (append_assoc (mods_pieces mods) (typed t x) (accessors_laid g r margin))))

-- static constructors

pub reads_initializer : (levels limit blocks : ℕ) (inner : Inner) (s : Spot) (note : Option (List ℕ)) (x : Name) (b : Block) (margin : List ℕ) → IsInside levels limit blocks inner
    → IsWellFormedBlock levels limit blocks b → MemberIsRead inner (member.Initializer s note x b) (note_pieces note margin ++ initializer_laid x b margin)
unfolding fixed headword indent
reads_initializer levels limit blocks inner s note x b margin inside k =
    says_like
    (says_then (says_modifiers static_only)
    (λ m e. member_name inner m x.text (params_pieces [] ++ block_behind b margin) (SameMember (member.Initializer s note x b))
    (λ y q. says_then (says_params inner.ranks [] (λ j d l. absurd (omega (arith, l))))
    (λ ps d. says_second (colon ∷ []) (constructor inner m y ps)
    (choice_first (only_static m.mods && are_none ps) (brace ∷ []) (maker m y ps) (ap (λ z. only_static z && are_none ps) e ∙ none_read ps d)
    (skips (10 ∷ []) (says_made (initializer_of m y) (says_braced b margin (inside.bodies b k)) (λ c w. let n = name_same y x q in λ i. member.Initializer nowhere None (n i) (w i)))))))))
    (behind_note note margin (initializer_laid x b margin)
    ∙ ap (λ z. lexeme.Keyword 58 ∷ lexemes z) (append_assoc (name x.text) (token (lexeme.Sign 2) ∷ token (lexeme.Sign 3) ∷ []) (block_behind b margin)))

-- indexers, in reference texts

pub reads_indexer : (levels limit blocks : ℕ) (inner : Inner) (s : Spot) (mods : Mods) (t : TypeForm) (x : Name) (u : TypeForm) (y : Name) (g r : Option Accessor) (margin : List ℕ) → IsInside levels limit blocks inner
    → IsType limit t → IsType limit u → IsAccessor levels limit blocks g → IsAccessor levels limit blocks r
    → MemberIsRead inner (member.Indexer s mods t x u y g r) (line margin (indexer_head mods t x u y) ++ accessors_laid g r margin)
unfolding fixed headword
reads_indexer levels limit blocks inner s mods t x u y g r margin inside h o k j =
    says_like
    (says_then (says_modifiers mods)
    (λ m e. says_second keyword_types (keyword_member inner m)
    (says_second (global ∷ []) (global_member inner m)
    (says_first (indexer ∷ []) (either kind maker_names (named_member inner m) (either kind (kw_void ∷ []) (void_method inner m) (choice kind (unmarked m) (kw_operator ∷ []) (operator inner) (constant inner m))))
    (takes (indexer ∷ []) name_of (lexeme.Name (codes "indexer")) refl
    (λ f _. skips (32 ∷ [])
    (says_second (paren ∷ []) (constructing inner m (name_of f))
    (typed_then limit inner t x (token (lexeme.Sign 4) ∷ (typed u y ++ (token (lexeme.Sign 5) ∷ accessors_laid g r margin))) inside.ranks h
    (λ t₁ x₁ p q. takes (bracket ∷ []) (λ _. tt) (lexeme.Sign 4) refl
    (λ _ _. typed_then limit inner u y (token (lexeme.Sign 5) ∷ accessors_laid g r margin) inside.ranks o
    (λ u₁ y₁ v w. takes (unbracket ∷ []) (λ _. tt) (lexeme.Sign 5) refl
    (λ _ _. says_made (indexer_of m (name_of f).spot t₁ x₁ u₁ y₁) (says_accessors levels limit blocks inner g r margin inside k j)
    (λ a d. λ i. member.Indexer nowhere (e i) (p i) (q i) (v i) (w i) (d.0 i) (d.1 i))))))))))))))
    (line_front margin (indexer_head mods t x u y) (accessors_laid g r margin)
    ∙ ap lexemes
    (append_assoc (mods_pieces mods) (headword begin.Indexer ++ (typed t x ++ (token (lexeme.Sign 4) ∷ (typed u y ++ token (lexeme.Sign 5) ∷ [])))) (accessors_laid g r margin)
    ∙ ap (λ z. mods_pieces mods ++ (headword begin.Indexer ++ z))
    (append_assoc (typed t x) (token (lexeme.Sign 4) ∷ (typed u y ++ token (lexeme.Sign 5) ∷ [])) (accessors_laid g r margin)
    ∙ ap (λ z. typed t x ++ (token (lexeme.Sign 4) ∷ z)) (append_assoc (typed u y) (token (lexeme.Sign 5) ∷ []) (accessors_laid g r margin)))))
