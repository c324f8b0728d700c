-- Members are read, each where its parts are.
use Rattle.std.proofs.Common.{◌≡◌, ◌⊎◌, inl, inr, ℕ, ◌≤◌, Bool, true, false, cond, List, [], ◌∷◌, ◌++◌, ◌&&◌, All, Option, Some, None, refl, sym, ◌∙◌, ap, subst, codes, arith}
use Rattle.std.specs.Option.{option_map}
use Rattle.std.specs.Str.{bytes_eq}
use Rattle.std.proofs.lemmas.List.{append_assoc}
use Rattle.cs_token.specs.Placed.{Placed as Token}
use Rattle.cs_token.specs.Tokens.{kind_of_name}
use Rattle.cs_token.specs.declared.lexeme.Lexeme.TheVariants as lexeme
use Rattle.cs_tree.specs.declared.types.Spot.{Spot}
use Rattle.cs_tree.specs.declared.types.Name.{Name}
use Rattle.cs_tree.specs.declared.types.TypeName.{TypeName}
use Rattle.cs_tree.specs.declared.types.TypeName.TheVariants as type_name
use Rattle.cs_tree.specs.declared.types.TypeForm.{TypeForm}
use Rattle.cs_tree.specs.declared.types.Param.{Param}
use Rattle.cs_tree.specs.declared.forms.Form.{Form}
use Rattle.cs_tree.specs.declared.members.Mods.{Mods}
use Rattle.cs_tree.specs.declared.members.Member.{Member}
use Rattle.cs_tree.specs.declared.members.Member.TheVariants as member
use Rattle.cs_tree.specs.Bare.{nowhere, bare_name, bare_type, bare_form}
use Rattle.cs_tree.specs.BareUnits.{bare_member}
use Rattle.cs_grammar.specs.Kinds.{has}
use Rattle.cs_grammar.specs.Grammar.{Grammar, bind, either, choice}
use Rattle.cs_productions.specs.Kinds.{global, indexer, brace, paren, semicolon, colon, colons, equals, keyword_types, kw_const, kw_void, kw_operator}
use Rattle.cs_productions.specs.Tokens.{kind, spot_of, text_of_lexeme, name_of, any_name}
use Rattle.cs_productions.specs.Types.{global_type, ty}
use Rattle.cs_productions.specs.Inner.{Inner}
use Rattle.cs_statements.specs.Kinds.{name_kinds}
use Rattle.cs_statements.specs.Jumps.{some_form, no_form, no_value}
use Rattle.cs_units.specs.Kinds.{maker_names}
use Rattle.cs_units.specs.declared.values.Marked.{Marked}
use Rattle.cs_units.specs.Modifiers.{modifiers, unmarked, only_static, start}
use Rattle.cs_units.specs.Members.{params, first_value, field_of, method, implementing, property, behind_name, global_behind, name_behind, behind_type, void_method, constant_of, constant, operator_of, operator, are_none, constructor, initializer, maker_of, constructing, indexing, path_member, keyword_member, global_member, indexer_member, named_member, any_member}
use Rattle.cs_layout.specs.Pieces.{Piece, gap, token}
use Rattle.cs_layout.specs.declared.fixed.Fixed.TheVariants as part
use Rattle.cs_layout.specs.Words as layout
use Rattle.cs_layout.specs.Words.{fixed, name}
use Rattle.cs_layout.specs.Layout.{form_shown, line, typed}
use Rattle.cs_unit_layout.specs.declared.headwords.Headword.TheVariants as begin
use Rattle.cs_unit_layout.specs.Heads.{headword, mods_pieces, params_pieces, note_pieces, name_note, noted}
use Rattle.cs_unit_layout.specs.Members.{initial_value, field_laid, constant_laid, operator_head, maker_head}
use Rattle.cs_wellformed.specs.Words.{IsTypeName, IsType, IsParam}
use Rattle.cs_wellformed.specs.WellFormed.{IsWellFormedForm}
use Rattle.cs_roundtrip_types.specs.Spells.{lexemes, Spells}
use Rattle.cs_roundtrip_types.proofs.Spelling.{lexemes-append, says_nothing, skips, takes, says_then, says_made, says_so, says_like, says_first, says_second}
use Rattle.cs_roundtrip_types.proofs.Types.{IsNamed, HasText, same_type, says_name, says_path, says_keyword_type, says_ranks, says_type}
use Rattle.cs_roundtrip_statements.proofs.Lines.{line_is}
use Rattle.cs_roundtrip_members.specs.Members.{IsFirstValue}
use Rattle.cs_roundtrip_members.specs.Inside.{IsInside}
use Rattle.cs_roundtrip_members.proofs.Heads.{says_modifiers, says_no_modifiers, says_params}

-- a note leaves no token
pub note_is : (note : Option (List ℕ)) (margin : List ℕ) → lexemes (note_pieces note margin) ≡ []
unfolding name_note noted
note_is None margin = refl
note_is (Some text) margin = line_is margin (name_note ++ noted text)

pub behind_note : (note : Option (List ℕ)) (margin : List ℕ) (ps : List Piece) → lexemes (note_pieces note margin ++ ps) ≡ lexemes ps
behind_note note margin ps = lexemes-append (note_pieces note margin) ps ∙ ap (λ z. z ++ lexemes ps) (note_is note margin)

-- names that may be `global` or `indexer`

pub name_or_global : (text : List ℕ) → (has name_kinds (kind_of_name text) ≡ true) ⊎ (has (global ∷ []) (kind_of_name text) ≡ true)
name_or_global text = go (bytes_eq text (codes "global")) (bytes_eq text (codes "get")) (bytes_eq text (codes "set")) (bytes_eq text (codes "indexer"))
  where
    go : (a b c d : Bool) → (has name_kinds (cond a 4 (cond b 5 (cond c 6 (cond d 7 0)))) ≡ true) ⊎ (has (global ∷ []) (cond a 4 (cond b 5 (cond c 6 (cond d 7 0)))) ≡ true)
    go true b c d = inr refl
    go false true c d = inl refl
    go false false true d = inl refl
    go false false false true = inl refl
    go false false false false = inl refl

pub name_same : (x y : Name) → HasText y.text x → bare_name x ≡ bare_name y
name_same x y e = ap (λ z. record { spot = nowhere; text = z }) e

-- behind a type: a name, and what stands behind it
behind_type_name : (inner : Inner) (m : Marked) (t : TypeForm) (text : List ℕ) (ps : List Piece) (Q : Member → Type 0)
    → ((y : Name) → HasText text y → Spells (behind_name inner m t y) ps Q) → Spells (behind_type inner m t) (name text ++ ps) Q
unfolding name
behind_type_name inner m t text ps Q x = elim (name_or_global text) [
  | inl is ↦ says_second (global ∷ []) (global_behind inner m t) (takes name_kinds name_of (lexeme.Name text) is (λ y e. x (name_of y) (ap text_of_lexeme e)))
  | inr is ↦ says_first (global ∷ []) (name_behind inner m t)
      (takes (global ∷ []) name_of (lexeme.Name text) is
      (λ y e. says_second (colons ∷ []) (implementing inner (start m t.spot) m (Some t) (name_of y).spot) (x (name_of y) (ap text_of_lexeme e))))
]

-- a member that begins with a type
pub member_type : (inner : Inner) (m : Marked) (x : TypeName) (r : ℕ) (ps : List Piece) (Q : Member → Type 0) → IsTypeName x → r ≤ inner.ranks
    → ((u : TypeForm) → IsNamed x r u → Spells (behind_type inner m u) ps Q) → Spells (any_member inner m) (layout.type_without_ranks x ++ (layout.ranks r ++ ps)) Q
unfolding fixed
member_type inner m (type_name.Keyword k) r ps Q h l y =
    says_first keyword_types
    (either kind (global ∷ []) (global_member inner m)
    (either kind (indexer ∷ []) (indexer_member inner m)
    (either kind maker_names (named_member inner m)
    (either kind (kw_void ∷ []) (void_method inner m) (choice kind (unmarked m) (kw_operator ∷ []) (operator inner) (constant inner m))))))
    (says_like
    (says_then (says_then (says_keyword_type k) (λ t p. says_so (says_ranks inner.ranks (type_name.Keyword k) 0 r t p (omega (arith, l))) (λ u q. (q.0, q.1 ∙ omega arith)))) (λ u p. y u p))
    (ap lexemes (sym (append_assoc (layout.keyword_type k) (layout.ranks r) ps))))
member_type inner m (type_name.Global texts) r ps Q h l y =
    says_second keyword_types (keyword_member inner m)
    (says_first (global ∷ [])
    (either kind (indexer ∷ []) (indexer_member inner m)
    (either kind maker_names (named_member inner m)
    (either kind (kw_void ∷ []) (void_method inner m) (choice kind (unmarked m) (kw_operator ∷ []) (operator inner) (constant inner m)))))
    (takes (global ∷ []) name_of (lexeme.Name (codes "global")) refl
    (λ t _. says_first (colons ∷ []) (constructing inner m (name_of t))
    (takes (colons ∷ []) (λ _. tt) (lexeme.Sign 33) refl
    (λ _ _. says_then (says_path texts h)
    (λ path_names e. says_then (says_ranks inner.ranks (type_name.Global texts) 0 r (global_type (name_of t).spot path_names) (ap type_name.Global e, refl) (omega (arith, l)))
    (λ u q. y u (q.0, q.1 ∙ omega arith))))))))

-- with a type and a name
pub member_typed : (limit : ℕ) (inner : Inner) (m : Marked) (t : TypeForm) (x : Name) (ps : List Piece) (Q : Member → Type 0) → inner.ranks ≡ limit → IsType limit t
    → ((u : TypeForm) (y : Name) → bare_type u ≡ bare_type t → bare_name y ≡ bare_name x → Spells (behind_name inner m u y) ps Q) → Spells (any_member inner m) (typed t x ++ ps) Q
unfolding fixed
member_typed limit inner m t x ps Q same h y =
    says_like
    (member_type inner m t.name t.ranks (gap (32 ∷ []) ∷ (name x.text ++ ps)) Q h.0 (omega (arith, h.1, same))
    (λ u k. skips (32 ∷ []) (behind_type_name inner m u x.text ps Q (λ z e. y u z (same_type t u k) (name_same z x e)))))
    (ap lexemes
    (append_assoc (layout.type_pieces t) (gap (32 ∷ []) ∷ name x.text) ps ∙ append_assoc (layout.type_without_ranks t.name) (layout.ranks t.ranks) (gap (32 ∷ []) ∷ (name x.text ++ ps))))

-- fields

says_field_value : (levels limit blocks : ℕ) (inner : Inner) (v : Option Form) (margin : List ℕ) → IsInside levels limit blocks inner → IsFirstValue levels limit blocks v
    → Spells (either kind (equals ∷ []) (first_value inner) no_value) (initial_value v margin ++ fixed part.Semicolon) (λ o. option_map bare_form o ≡ option_map bare_form v)
unfolding fixed
says_field_value levels limit blocks inner None margin x h =
    says_second (equals ∷ []) (first_value inner) (takes (semicolon ∷ []) (λ _. tt) (lexeme.Sign 7) refl (λ _ _. says_nothing no_form refl))
says_field_value levels limit blocks inner (Some a) margin x h =
    says_first (equals ∷ []) no_value
    (skips (32 ∷ [])
    (takes (equals ∷ []) (λ _. tt) (lexeme.Sign 11) refl
    (λ _ _. skips (32 ∷ [])
    (says_then (x.forms a margin h) (λ c e. takes (semicolon ∷ []) (λ _. tt) (lexeme.Sign 7) refl (λ _ _. says_nothing (some_form c) (ap Some e)))))))

-- a member behind its modifiers and its margin, with its note
abbrev pub SameMember : Member → Member → Type 0
SameMember m n = bare_member n ≡ bare_member m

abbrev pub MemberIsRead : Inner → Member → List Piece → Type 0
MemberIsRead inner m ps = Spells (bind modifiers (any_member inner)) ps (SameMember m)

pub reads_field : (levels limit blocks : ℕ) (inner : Inner) (s : Spot) (note : Option (List ℕ)) (mods : Mods) (t : TypeForm) (x : Name) (v : Option Form) (margin : List ℕ) → IsInside levels limit blocks inner
    → IsType limit t → IsFirstValue levels limit blocks v → MemberIsRead inner (member.Field s note mods t x v) (note_pieces note margin ++ field_laid mods t x v margin)
reads_field levels limit blocks inner s note mods t x v margin inside h k =
    says_like
    (says_then (says_modifiers mods)
    (λ m e. member_typed limit inner m t x (initial_value v margin ++ fixed part.Semicolon) (SameMember (member.Field s note mods t x v)) inside.ranks h
    (λ u y p q. says_first (equals ∷ semicolon ∷ []) (either kind (paren ∷ []) (method inner (start m u.spot) m (Some u) None y) (property inner m u y))
    (says_made (field_of m u y) (says_field_value levels limit blocks inner v margin inside k) (λ o d. λ i. member.Field nowhere None (e i) (p i) (q i) (d i))))))
    (behind_note note margin (field_laid mods t x v margin) ∙ line_is margin (mods_pieces mods ++ (typed t x ++ (initial_value v margin ++ fixed part.Semicolon))))

-- what is asked of a value that was read

pub choice_second : {A : Type 0} {P : A → Type 0} {ps : List Piece} {h : Grammar Token A} (b : Bool) (first : List ℕ) (g : Grammar Token A) → Spells h ps P → Spells (choice kind b first g h) ps P
choice_second true first g x = says_second first g x
choice_second false first g x = record { spells = x.spells }

pub choice_first : {A : Type 0} {P : A → Type 0} {ps : List Piece} {g : Grammar Token A} (b : Bool) (first : List ℕ) (h : Grammar Token A) → b ≡ true → Spells g ps P → Spells (choice kind b first g h) ps P
choice_first {P = P} {ps = ps} {g = g} b first h is x = subst (λ c. Spells (choice kind c first g h) ps P) (sym is) (says_first first h x)

any_last : {ps : List Piece} {P : Member → Type 0} (inner : Inner) (m : Marked) → Spells (choice kind (unmarked m) (kw_operator ∷ []) (operator inner) (constant inner m)) ps P → Spells (any_member inner m) ps P
any_last inner m x =
    says_second keyword_types (keyword_member inner m)
    (says_second (global ∷ []) (global_member inner m)
    (says_second (indexer ∷ []) (indexer_member inner m) (says_second maker_names (named_member inner m) (says_second (kw_void ∷ []) (void_method inner m) x))))

known : (limit : ℕ) (inner : Inner) (t : TypeForm) → inner.ranks ≡ limit → IsType limit t → IsType inner.ranks t
known limit inner t e h = subst (λ r. IsType r t) (sym e) h

pub known_params : (limit : ℕ) (inner : Inner) (ps : List Param) → inner.ranks ≡ limit → All (IsParam limit) ps → All (IsParam inner.ranks) ps
known_params limit inner ps e h = subst (λ r. All (IsParam r) ps) (sym e) h

-- a type and a name
pub typed_then : {B : Type 0} {Q : B → Type 0} {f : TypeForm → Name → Grammar Token B} (limit : ℕ) (inner : Inner) (t : TypeForm) (x : Name) (ps : List Piece) → inner.ranks ≡ limit → IsType limit t
    → ((u : TypeForm) (y : Name) → bare_type u ≡ bare_type t → bare_name y ≡ bare_name x → Spells (f u y) ps Q)
    → Spells (bind (ty inner.ranks) (λ u. bind any_name (λ y. f u y))) (typed t x ++ ps) Q
unfolding fixed
typed_then limit inner t x ps e h y =
    says_like
    (says_then (says_type inner.ranks t (known limit inner t e h)) (λ u k. skips (32 ∷ []) (says_then (says_name x.text) (λ z d. y u z (same_type t u k) (name_same z x d)))))
    (ap lexemes (append_assoc (layout.type_pieces t) (gap (32 ∷ []) ∷ name x.text) ps))

-- constants

pub reads_constant : (levels limit blocks : ℕ) (inner : Inner) (s : Spot) (note : Option (List ℕ)) (mods : Mods) (t : TypeForm) (x : Name) (a : Form) (margin : List ℕ) → IsInside levels limit blocks inner
    → IsType limit t → IsWellFormedForm levels limit blocks a → MemberIsRead inner (member.Constant s note mods t x a) (note_pieces note margin ++ constant_laid mods t x a margin)
unfolding fixed headword
reads_constant levels limit blocks inner s note mods t x a margin inside h k =
    says_like
    (says_then (says_modifiers mods)
    (λ m e. any_last inner m
    (choice_second (unmarked m) (kw_operator ∷ []) (operator inner)
    (takes (kw_const ∷ []) spot_of (lexeme.Keyword 11) refl
    (λ f _. skips (32 ∷ [])
    (typed_then limit inner t x (fixed part.Equals ++ ((form_shown a).pieces margin ++ fixed part.Semicolon)) inside.ranks h
    (λ u y p q. skips (32 ∷ [])
    (takes (equals ∷ []) (λ _. tt) (lexeme.Sign 11) refl
    (λ _ _. skips (32 ∷ [])
    (says_then (inside.forms a margin k)
    (λ c d. takes (semicolon ∷ []) (λ _. tt) (lexeme.Sign 7) refl
    (λ _ _. says_nothing (constant_of m (spot_of f) u y c) (λ i. member.Constant nowhere None (e i) (p i) (q i) (d i))))))))))))))
    (behind_note note margin (constant_laid mods t x a margin)
    ∙ line_is margin (mods_pieces mods ++ (headword begin.Const ++ (typed t x ++ (fixed part.Equals ++ ((form_shown a).pieces margin ++ fixed part.Semicolon))))))

-- operators, in reference texts

pub reads_operator : (levels limit blocks : ℕ) (inner : Inner) (s : Spot) (t : TypeForm) (x : Name) (params : List Param) (margin : List ℕ) → IsInside levels limit blocks inner
    → IsType limit t → All (IsParam limit) params → MemberIsRead inner (member.Operator s t x params) (line margin (operator_head t x params ++ fixed part.Semicolon))
unfolding fixed headword
reads_operator levels limit blocks inner s t x params margin inside h k =
    says_like
    (says_then {ps = []} says_no_modifiers
    (λ m e. any_last inner m
    (choice_first (unmarked m) (kw_operator ∷ []) (constant inner m) e
    (takes (kw_operator ∷ []) spot_of (lexeme.Keyword 43) refl
    (λ f _. skips (32 ∷ [])
    (typed_then limit inner t x (params_pieces params ++ token (lexeme.Sign 7) ∷ []) inside.ranks h
    (λ u y p q. says_then (says_params inner.ranks params (known_params limit inner params inside.ranks k))
    (λ ps d. takes (semicolon ∷ []) (λ _. tt) (lexeme.Sign 7) refl (λ _ _. says_nothing (operator_of (spot_of f) u y ps) (λ i. member.Operator nowhere (p i) (q i) (d i)))))))))))
    (line_is margin (operator_head t x params ++ fixed part.Semicolon)
    ∙ ap (λ z. lexeme.Keyword 43 ∷ lexemes z) (append_assoc (typed t x) (params_pieces params) (token (lexeme.Sign 7) ∷ [])))

-- what begins with a name: a constructor, with or without a block

maker_name : (text : List ℕ) → (has maker_names (kind_of_name text) ≡ true) ⊎ ((has (indexer ∷ []) (kind_of_name text) ≡ true) ⊎ (has (global ∷ []) (kind_of_name text) ≡ true))
maker_name text = go (bytes_eq text (codes "global")) (bytes_eq text (codes "get")) (bytes_eq text (codes "set")) (bytes_eq text (codes "indexer"))
  where
    go : (a b c d : Bool) → (has maker_names (cond a 4 (cond b 5 (cond c 6 (cond d 7 0)))) ≡ true)
        ⊎ ((has (indexer ∷ []) (cond a 4 (cond b 5 (cond c 6 (cond d 7 0)))) ≡ true) ⊎ (has (global ∷ []) (cond a 4 (cond b 5 (cond c 6 (cond d 7 0)))) ≡ true))
    go true b c d = inr (inr refl)
    go false true c d = inl refl
    go false false true d = inl refl
    go false false false true = inr (inl refl)
    go false false false false = inl refl

pub member_name : (inner : Inner) (m : Marked) (text : List ℕ) (ps : List Piece) (Q : Member → Type 0) → ((y : Name) → HasText text y → Spells (constructing inner m y) ps Q)
    → Spells (any_member inner m) (name text ++ ps) Q
unfolding name
member_name inner m text ps Q x =
    says_second keyword_types (keyword_member inner m) (elim (maker_name text) [
      | inl is ↦ says_second (global ∷ []) (global_member inner m)
          (says_second (indexer ∷ []) (indexer_member inner m)
          (says_first maker_names (either kind (kw_void ∷ []) (void_method inner m) (choice kind (unmarked m) (kw_operator ∷ []) (operator inner) (constant inner m)))
          (takes maker_names name_of (lexeme.Name text) is (λ y e. x (name_of y) (ap text_of_lexeme e)))))
      | inr (inl is) ↦ says_second (global ∷ []) (global_member inner m)
          (says_first (indexer ∷ []) (either kind maker_names (named_member inner m) (either kind (kw_void ∷ []) (void_method inner m) (choice kind (unmarked m) (kw_operator ∷ []) (operator inner) (constant inner m))))
          (takes (indexer ∷ []) name_of (lexeme.Name text) is
          (λ y e. says_first (paren ∷ []) (indexing inner m (name_of y).spot) (x (name_of y) (ap text_of_lexeme e)))))
      | inr (inr is) ↦ says_first (global ∷ [])
          (either kind (indexer ∷ []) (indexer_member inner m)
          (either kind maker_names (named_member inner m) (either kind (kw_void ∷ []) (void_method inner m) (choice kind (unmarked m) (kw_operator ∷ []) (operator inner) (constant inner m)))))
          (takes (global ∷ []) name_of (lexeme.Name text) is
          (λ y e. says_second (colons ∷ []) (path_member inner m (name_of y).spot) (x (name_of y) (ap text_of_lexeme e))))
    ])

pub reads_maker : (levels limit blocks : ℕ) (inner : Inner) (s : Spot) (mods : Mods) (x : Name) (params : List Param) (margin : List ℕ) → IsInside levels limit blocks inner
    → All (IsParam limit) params → MemberIsRead inner (member.Maker s mods x params) (line margin (maker_head mods x params ++ fixed part.Semicolon))
unfolding fixed
reads_maker levels limit blocks inner s mods x params margin inside k =
    says_like
    (says_then (says_modifiers mods)
    (λ m e. member_name inner m x.text (params_pieces params ++ token (lexeme.Sign 7) ∷ []) (SameMember (member.Maker s mods x params))
    (λ y q. says_then (says_params inner.ranks params (known_params limit inner params inside.ranks k))
    (λ ps d. says_second (colon ∷ []) (constructor inner m y ps)
    (choice_second (only_static m.mods && are_none ps) (brace ∷ []) (initializer inner m y)
    (takes (semicolon ∷ []) (λ _. tt) (lexeme.Sign 7) refl
    (λ _ _. says_nothing (maker_of m y ps) (let n = name_same y x q in λ i. member.Maker nowhere (e i) (n i) (d i)))))))))
    (line_is margin (maker_head mods x params ++ fixed part.Semicolon)
    ∙ ap lexemes
    (append_assoc (mods_pieces mods) (name x.text ++ params_pieces params) (token (lexeme.Sign 7) ∷ [])
    ∙ ap (λ z. mods_pieces mods ++ z) (append_assoc (name x.text) (params_pieces params) (token (lexeme.Sign 7) ∷ []))))
