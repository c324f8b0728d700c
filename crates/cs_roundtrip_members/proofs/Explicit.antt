-- Methods are read, those that implement a method of an interface by name among them.
use Rattle.std.proofs.Common.{◌≡◌, inl, inr, ℕ, true, List, [], ◌∷◌, ◌++◌, All, Option, Some, None, refl, sym, ◌∙◌, ap, codes, arith}
use Rattle.std.specs.Option.{option_map}
use Rattle.std.proofs.lemmas.List.{append-nil, append_assoc}
use Rattle.cs_token.specs.Placed.{Placed as Token}
use Rattle.cs_token.specs.declared.lexeme.Lexeme.TheVariants as lexeme
use Rattle.cs_tree.specs.declared.types.Spot.{Spot}
use Rattle.cs_tree.specs.declared.types.Name.{Name}
use Rattle.cs_tree.specs.declared.types.TypeForm.{TypeForm}
use Rattle.cs_tree.specs.declared.types.Param.{Param}
use Rattle.cs_tree.specs.declared.forms.Block.{Block}
use Rattle.cs_tree.specs.declared.members.Mods.{Mods}
use Rattle.cs_tree.specs.declared.members.Explicit.{Explicit}
use Rattle.cs_tree.specs.declared.members.Member.{Member}
use Rattle.cs_tree.specs.declared.members.Member.TheVariants as member
use Rattle.cs_tree.specs.Bare.{nowhere, bare_name, bare_type}
use Rattle.cs_tree.specs.BareUnits.{bare_explicit}
use Rattle.cs_grammar.specs.Grammar.{Grammar, bind, choice, turns}
use Rattle.cs_productions.specs.Kinds.{global, indexer, paren, semicolon, colons, dot, equals, keyword_types, kw_void, kw_operator}
use Rattle.cs_productions.specs.Tokens.{kind, sign, spot_of, text_of_lexeme, name_of, any_name}
use Rattle.cs_productions.specs.Inner.{Inner}
use Rattle.cs_statements.specs.Kinds.{name_kinds}
use Rattle.cs_units.specs.Kinds.{maker_names}
use Rattle.cs_units.specs.declared.values.Marked.{Marked}
use Rattle.cs_units.specs.declared.values.Implementing.{Implementing}
use Rattle.cs_units.specs.Modifiers.{unmarked, start}
use Rattle.cs_units.specs.Members.{field, method_of, method, implementing_first, implementing_more, one_more_part, explicit_of, implementing, property, behind_name, name_behind, behind_type, void_global, void_name, void_method, constant, operator, keyword_member, global_member, indexer_member, named_member, any_member}
use Rattle.cs_layout.specs.Pieces.{Piece, token}
use Rattle.cs_layout.specs.declared.fixed.Fixed.TheVariants as part
use Rattle.cs_layout.specs.Words as layout
use Rattle.cs_layout.specs.Words.{fixed, name}
use Rattle.cs_layout.specs.Layout.{indent}
use Rattle.cs_unit_layout.specs.declared.headwords.Headword.TheVariants as begin
use Rattle.cs_unit_layout.specs.Heads.{headword, mods_pieces, params_pieces, note_pieces}
use Rattle.cs_unit_layout.specs.Members.{body_behind, bodied, method_head}
use Rattle.cs_wellformed.specs.Words.{IsPath, IsParam}
use Rattle.cs_roundtrip_types.specs.Spells.{lexemes, Spells}
use Rattle.cs_roundtrip_types.proofs.Spelling.{skips, takes, says_then, says_made, says_so, says_like, says_in, says_first, says_second, says_no_round, says_round}
use Rattle.cs_roundtrip_types.proofs.Types.{HasText, same_type, says_name_text, says_name}
use Rattle.cs_roundtrip_members.specs.Members.{IsResult, IsBody, IsExplicit}
use Rattle.cs_roundtrip_members.specs.Inside.{IsInside}
use Rattle.cs_roundtrip_members.proofs.Heads.{says_modifiers, says_params, says_body}
use Rattle.cs_roundtrip_members.proofs.Members.{behind_note, name_or_global, known_params, member_type, member_typed, name_same, SameMember, MemberIsRead}

-- the path of an interface and the name of its method

abbrev IsParted : List (List ℕ) → List ℕ → Implementing → Type 0
IsParted texts text r = (r.path ≡ texts) × HasText text r.name

one_part : (before : Implementing) (text : List ℕ) → Spells (one_more_part before) (fixed part.Dot ++ name text) (λ r. (r.path ≡ before.path ++ before.name.text ∷ []) × HasText text r.name)
unfolding fixed
one_part before text =
    takes (dot ∷ []) (λ _. tt) (lexeme.Sign 9) refl (λ _ _. says_made (implementing_more before) (says_name text) (λ y e. (refl, e)))

parts : (before : Implementing) (qs : List (List ℕ)) (text : List ℕ)
    → Spells (turns kind (dot ∷ []) (λ _. true) one_more_part before) (layout.more_names qs ++ (fixed part.Dot ++ name text)) (IsParted (before.path ++ before.name.text ∷ qs) text)
parts before [] text =
    says_like
    (says_round (dot ∷ []) (λ _. true) one_more_part before refl (one_part before text) (λ r e. says_no_round (dot ∷ []) (λ _. true) one_more_part r e))
    (ap lexemes (sym (append-nil (fixed part.Dot ++ name text))))
parts before (q ∷ qs) text =
    says_like
    (says_round (dot ∷ []) (λ _. true) one_more_part before refl (one_part before q)
    (λ r e. says_so (parts r qs text)
    (λ z d. (d.0 ∙ (ap (λ p. p ++ r.name.text ∷ qs) e.0 ∙ (ap (λ p. (before.path ++ before.name.text ∷ []) ++ p ∷ qs) e.1 ∙ append_assoc before.path (before.name.text ∷ []) (q ∷ qs))), d.1))))
    (ap lexemes (append_assoc (layout.dotted q) (layout.more_names qs) (fixed part.Dot ++ name text)))

parts_behind : (first p : List ℕ) (ps : List (List ℕ)) (text : List ℕ) → first ≡ p
    → Spells (bind (sign dot) (λ _. bind any_name (λ y. turns kind (dot ∷ []) (λ _. true) one_more_part (implementing_first first y)))) (layout.more_names ps ++ (fixed part.Dot ++ name text)) (IsParted (p ∷ ps) text)
unfolding fixed
parts_behind first p [] text e =
    takes (dot ∷ []) (λ _. tt) (lexeme.Sign 9) refl
    (λ _ _. says_like
    (says_then (says_name text) (λ y d. says_no_round {P = IsParted (p ∷ []) text} (dot ∷ []) (λ _. true) one_more_part (implementing_first first y) (ap (λ z. z ∷ []) e, d)))
    (ap lexemes (sym (append-nil (name text)))))
parts_behind first p (q ∷ qs) text e =
    takes (dot ∷ []) (λ _. tt) (lexeme.Sign 9) refl
    (λ _ _. says_like
    (says_then (says_name q)
    (λ y d. says_so (parts (implementing_first first y) qs text) (λ r z. (z.0 ∙ (ap (λ w. w ∷ y.text ∷ qs) e ∙ ap (λ w. p ∷ w ∷ qs) d), z.1))))
    (ap lexemes (append_assoc (name q) (layout.more_names qs) (token (lexeme.Sign 9) ∷ name text))))

-- what stands behind the name of a method
method_rest : (levels limit blocks : ℕ) (inner : Inner) (s at : Spot) (note : Option (List ℕ)) (mods : Mods) (r r′ : Option TypeForm) (f f′ : Option Explicit) (x y : Name) (params : List Param) (b : Option Block) (margin : List ℕ) (m : Marked)
    → IsInside levels limit blocks inner → All (IsParam limit) params → IsBody levels limit blocks b → m.mods ≡ mods → option_map bare_type r′ ≡ option_map bare_type r → option_map bare_explicit f′ ≡ option_map bare_explicit f
    → bare_name y ≡ bare_name x → Spells (method inner at m r′ f′ y) (params_pieces params ++ body_behind b margin) (SameMember (member.Method s note mods r f x params b))
method_rest levels limit blocks inner s at note mods r r′ f f′ x y params b margin m inside h k e p q n =
    says_then (says_params inner.ranks params (known_params limit inner params inside.ranks h))
    (λ ps d. says_made (method_of at m r′ f′ y ps) (says_body levels limit blocks inner b margin inside k) (λ c w. λ i. member.Method nowhere None (e i) (p i) (q i) (n i) (d i) (w i)))

-- a method by the path of an interface
says_implementing : (inner : Inner) (at : Spot) (m : Marked) (r : Option TypeForm) (spot : Spot) (f : Explicit) (text : List ℕ) (ps : List Piece) (Q : Member → Type 0) → IsPath f.path
    → ((g : Option Explicit) (y : Name) → option_map bare_explicit g ≡ option_map bare_explicit (Some f) → HasText text y → Spells (method inner at m r g y) ps Q)
    → Spells (implementing inner at m r spot) (token (lexeme.Sign 33) ∷ (layout.path f.path ++ ((fixed part.Dot ++ name text) ++ ps))) Q
says_implementing inner at m r spot f text ps Q h y = go f.path refl h
  where
    go : (texts : List (List ℕ)) → f.path ≡ texts → IsPath texts → Spells (implementing inner at m r spot) (token (lexeme.Sign 33) ∷ (layout.path texts ++ ((fixed part.Dot ++ name text) ++ ps))) Q
    go [] e k = absurd k
    go (t ∷ ts) e k =
        takes (colons ∷ []) (λ _. tt) (lexeme.Sign 33) refl
        (λ _ _. says_like
        (says_then (says_name_text t)
        (λ first d. says_like
        (says_in {g = bind (bind (sign dot) (λ _. bind any_name (λ z. turns kind (dot ∷ []) (λ _. true) one_more_part (implementing_first first z)))) (λ named. method inner at m r (explicit_of spot named) named.name)}
        (λ us c rest _ k. (k.2.0, k.2.1, k.2.2, (k.2.3.0, k.2.3.1, k.2.3.2, (k.0, k.1, k.2.3.3, k.3))))
        (says_then (parts_behind first t ts text d) (λ named z. y (explicit_of spot named) named.name (ap (λ w. Some (bare_explicit (record { spot = nowhere; path = w }))) (z.0 ∙ sym e)) z.1)))
        (ap lexemes (sym (append_assoc (layout.more_names ts) (fixed part.Dot ++ name text) ps)))))
        (ap lexemes (append_assoc (name t) (layout.more_names ts) ((fixed part.Dot ++ name text) ++ ps))))

-- behind `global` and a path: the method of an interface

typed_explicit : (inner : Inner) (m : Marked) (u : TypeForm) (f : Explicit) (text : List ℕ) (ps : List Piece) (Q : Member → Type 0) → IsPath f.path
    → ((at : Spot) (g : Option Explicit) (y : Name) → option_map bare_explicit g ≡ option_map bare_explicit (Some f) → HasText text y → Spells (method inner at m (Some u) g y) ps Q)
    → Spells (behind_type inner m u) (fixed part.Global ++ (layout.path f.path ++ ((fixed part.Dot ++ name text) ++ ps))) Q
unfolding fixed
typed_explicit inner m u f text ps Q h y =
    says_first (global ∷ []) (name_behind inner m u)
    (takes (global ∷ []) name_of (lexeme.Name (codes "global")) refl
    (λ t _. says_first (colons ∷ []) (behind_name inner m u (name_of t)) (says_implementing inner (start m u.spot) m (Some u) (name_of t).spot f text ps Q h (λ g z p q. y (start m u.spot) g z p q))))

any_void : {ps : List Piece} {P : Member → Type 0} (inner : Inner) (m : Marked) → Spells (void_method inner m) ps P → Spells (any_member inner m) ps P
any_void inner m x =
    says_second keyword_types (keyword_member inner m)
    (says_second (global ∷ []) (global_member inner m)
    (says_second (indexer ∷ []) (indexer_member inner m)
    (says_second maker_names (named_member inner m) (says_first (kw_void ∷ []) (choice kind (unmarked m) (kw_operator ∷ []) (operator inner) (constant inner m)) x))))

void_explicit : (inner : Inner) (m : Marked) (f : Explicit) (text : List ℕ) (ps : List Piece) (Q : Member → Type 0) → IsPath f.path
    → ((at : Spot) (g : Option Explicit) (y : Name) → option_map bare_explicit g ≡ option_map bare_explicit (Some f) → HasText text y → Spells (method inner at m None g y) ps Q)
    → Spells (void_method inner m) (headword begin.Void ++ (fixed part.Global ++ (layout.path f.path ++ ((fixed part.Dot ++ name text) ++ ps)))) Q
unfolding fixed headword
void_explicit inner m f text ps Q h y =
    takes (kw_void ∷ []) spot_of (lexeme.Keyword 74) refl
    (λ s _. skips (32 ∷ [])
    (says_first (global ∷ []) (void_name inner m (spot_of s))
    (takes (global ∷ []) name_of (lexeme.Name (codes "global")) refl
    (λ t _. says_first (colons ∷ []) (method inner (start m (spot_of s)) m None None (name_of t))
    (says_implementing inner (start m (spot_of s)) m None (name_of t).spot f text ps Q h (λ g z p q. y (start m (spot_of s)) g z p q))))))

void_named : (inner : Inner) (m : Marked) (text : List ℕ) (ps : List Piece) (Q : Member → Type 0) → ((at : Spot) (y : Name) → HasText text y → Spells (method inner at m None None y) ps Q)
    → Spells (void_method inner m) (headword begin.Void ++ (name text ++ ps)) Q
unfolding fixed headword name
void_named inner m text ps Q x =
    takes (kw_void ∷ []) spot_of (lexeme.Keyword 74) refl
    (λ s _. skips (32 ∷ []) (elim (name_or_global text) [
      | inl is ↦ says_second (global ∷ []) (void_global inner m (spot_of s)) (takes name_kinds name_of (lexeme.Name text) is (λ y e. x (start m (spot_of s)) (name_of y) (ap text_of_lexeme e)))
      | inr is ↦ says_first (global ∷ []) (void_name inner m (spot_of s))
          (takes (global ∷ []) name_of (lexeme.Name text) is
          (λ y e. says_second (colons ∷ []) (implementing inner (start m (spot_of s)) m None (name_of y).spot) (x (start m (spot_of s)) (name_of y) (ap text_of_lexeme e))))
    ]))

says_blank : {A : Type 0} {P : A → Type 0} {g : Grammar Token A} {ps : List Piece} → Spells g ps P → Spells g (fixed part.Blank ++ ps) P
unfolding fixed
says_blank x = skips (32 ∷ []) x

dotted_path : (f : Explicit) (x : Name) (rest : List Piece) → (fixed part.Global ++ (layout.path f.path ++ fixed part.Dot)) ++ (name x.text ++ rest) ≡ fixed part.Global ++ (layout.path f.path ++ ((fixed part.Dot ++ name x.text) ++ rest))
dotted_path f x rest =
    append_assoc (fixed part.Global) (layout.path f.path ++ fixed part.Dot) (name x.text ++ rest)
    ∙ ap (λ z. fixed part.Global ++ z)
    (append_assoc (layout.path f.path) (fixed part.Dot) (name x.text ++ rest) ∙ ap (λ z. layout.path f.path ++ z) (sym (append_assoc (fixed part.Dot) (name x.text) rest)))

-- the parts of a head, and what stands behind it
regroup : (mods r f x ps rest : List Piece) → (mods ++ (r ++ (f ++ (x ++ ps)))) ++ rest ≡ mods ++ (r ++ (f ++ (x ++ (ps ++ rest))))
regroup mods r f x ps rest =
    append_assoc mods (r ++ (f ++ (x ++ ps))) rest
    ∙ ap (λ z. mods ++ z)
    (append_assoc r (f ++ (x ++ ps)) rest ∙ ap (λ z. r ++ z) (append_assoc f (x ++ ps) rest ∙ ap (λ z. f ++ z) (append_assoc x ps rest)))

pub reads_method : (levels limit blocks : ℕ) (inner : Inner) (s : Spot) (note : Option (List ℕ)) (mods : Mods) (r : Option TypeForm) (f : Option Explicit) (x : Name) (params : List Param) (b : Option Block) (margin : List ℕ)
    → IsInside levels limit blocks inner → IsResult limit r → IsExplicit f → All (IsParam limit) params → IsBody levels limit blocks b
    → MemberIsRead inner (member.Method s note mods r f x params b) (note_pieces note margin ++ bodied (method_head mods r f x params) b margin)
unfolding indent
reads_method levels limit blocks inner s note mods None None x params b margin inside h k j w =
    says_like
    (says_then (says_modifiers mods)
    (λ m e. any_void inner m
    (void_named inner m x.text (params_pieces params ++ body_behind b margin) (SameMember (member.Method s note mods None None x params b))
    (λ at y q. method_rest levels limit blocks inner s at note mods None None None None x y params b margin m inside j w e refl refl (name_same y x q)))))
    (behind_note note margin (bodied (method_head mods None None x params) b margin)
    ∙ ap lexemes (regroup (mods_pieces mods) (headword begin.Void) [] (name x.text) (params_pieces params) (body_behind b margin)))
reads_method levels limit blocks inner s note mods None (Some f) x params b margin inside h k j w =
    says_like
    (says_then (says_modifiers mods)
    (λ m e. any_void inner m
    (void_explicit inner m f x.text (params_pieces params ++ body_behind b margin) (SameMember (member.Method s note mods None (Some f) x params b)) k
    (λ at g y p q. method_rest levels limit blocks inner s at note mods None None (Some f) g x y params b margin m inside j w e refl p (name_same y x q)))))
    (behind_note note margin (bodied (method_head mods None (Some f) x params) b margin)
    ∙ ap lexemes
    (regroup (mods_pieces mods) (headword begin.Void) (fixed part.Global ++ (layout.path f.path ++ fixed part.Dot)) (name x.text) (params_pieces params) (body_behind b margin)
    ∙ ap (λ z. mods_pieces mods ++ (headword begin.Void ++ z)) (dotted_path f x (params_pieces params ++ body_behind b margin))))
reads_method levels limit blocks inner s note mods (Some t) None x params b margin inside h k j w =
    says_like
    (says_then (says_modifiers mods)
    (λ m e. member_typed limit inner m t x (params_pieces params ++ body_behind b margin) (SameMember (member.Method s note mods (Some t) None x params b)) inside.ranks h
    (λ u y p q. says_second (equals ∷ semicolon ∷ []) (field inner m u y)
    (says_first (paren ∷ []) (property inner m u y)
    (method_rest levels limit blocks inner s (start m u.spot) note mods (Some t) (Some u) None None x y params b margin m inside j w e (ap Some p) refl q)))))
    (behind_note note margin (bodied (method_head mods (Some t) None x params) b margin)
    ∙ ap lexemes
    (regroup (mods_pieces mods) (layout.type_pieces t ++ fixed part.Blank) [] (name x.text) (params_pieces params) (body_behind b margin)
    ∙ ap (λ z. mods_pieces mods ++ z)
    (append_assoc (layout.type_pieces t) (fixed part.Blank) (name x.text ++ (params_pieces params ++ body_behind b margin))
    ∙ (ap (λ z. layout.type_pieces t ++ z) (sym (append_assoc (fixed part.Blank) (name x.text) (params_pieces params ++ body_behind b margin)))
    ∙ sym (append_assoc (layout.type_pieces t) (fixed part.Blank ++ name x.text) (params_pieces params ++ body_behind b margin))))))
reads_method levels limit blocks inner s note mods (Some t) (Some f) x params b margin inside h k j w =
    says_like
    (says_then (says_modifiers mods)
    (λ m e. member_type inner m t.name t.ranks (fixed part.Blank ++ (fixed part.Global ++ (layout.path f.path ++ ((fixed part.Dot ++ name x.text) ++ (params_pieces params ++ body_behind b margin)))))
    (SameMember (member.Method s note mods (Some t) (Some f) x params b)) h.0 (omega (arith, h.1, inside.ranks))
    (λ u z. says_blank
    (typed_explicit inner m u f x.text (params_pieces params ++ body_behind b margin) (SameMember (member.Method s note mods (Some t) (Some f) x params b)) k
    (λ at g y p q. method_rest levels limit blocks inner s at note mods (Some t) (Some u) (Some f) g x y params b margin m inside j w e (ap Some (same_type t u z)) p (name_same y x q))))))
    (behind_note note margin (bodied (method_head mods (Some t) (Some f) x params) b margin)
    ∙ ap lexemes
    (regroup (mods_pieces mods) (layout.type_pieces t ++ fixed part.Blank) (fixed part.Global ++ (layout.path f.path ++ fixed part.Dot)) (name x.text) (params_pieces params) (body_behind b margin)
    ∙ ap (λ z. mods_pieces mods ++ z)
    (ap (λ z. (layout.type_pieces t ++ fixed part.Blank) ++ z) (dotted_path f x (params_pieces params ++ body_behind b margin))
    ∙ (append_assoc (layout.type_pieces t) (fixed part.Blank) (fixed part.Global ++ (layout.path f.path ++ ((fixed part.Dot ++ name x.text) ++ (params_pieces params ++ body_behind b margin))))
    ∙ append_assoc (layout.type_without_ranks t.name) (layout.ranks t.ranks) (fixed part.Blank ++ (fixed part.Global ++ (layout.path f.path ++ ((fixed part.Dot ++ name x.text) ++ (params_pieces params ++ body_behind b margin)))))))))
