-- Modifiers, parameters and blocks of members are read.
use Rattle.std.proofs.Common.{◌≡◌, ℕ, Bool, true, false, cond, List, [], ◌∷◌, map, All, Option, Some, None, refl, sym, ◌∙◌, ap, subst}
use Rattle.std.specs.Prelude.{is_some}
use Rattle.std.specs.Option.{option_map}
use Rattle.std.proofs.lemmas.List.{append_assoc}
use Rattle.cs_token.specs.Tokens.{kind_of}
use Rattle.cs_token.specs.declared.lexeme.Lexeme.TheVariants as lexeme
use Rattle.cs_tree.specs.declared.types.Param.{Param}
use Rattle.cs_tree.specs.declared.forms.Block.{Block}
use Rattle.cs_tree.specs.declared.members.Access.{Access}
use Rattle.cs_tree.specs.declared.members.Access.TheVariants.{Public, Private, Protected, Internal, ProtectedOrInternal, ProtectedAndInternal}
use Rattle.cs_tree.specs.declared.members.Mods.{Mods}
use Rattle.cs_tree.specs.Bare.{bare_param, bare_block}
use Rattle.cs_grammar.specs.Kinds.{has}
use Rattle.cs_grammar.specs.Grammar.{gives, either}
use Rattle.cs_productions.specs.Kinds.{paren, unparen, semicolon, kw_public, kw_private, kw_protected, kw_internal, kw_static, kw_abstract, kw_sealed, kw_virtual, kw_override, kw_readonly, kw_extern}
use Rattle.cs_productions.specs.Tokens.{kind, spot_of}
use Rattle.cs_productions.specs.Inner.{Inner}
use Rattle.cs_statements.specs.Structured.{some_block, no_block}
use Rattle.cs_units.specs.Kinds.{access_kinds}
use Rattle.cs_units.specs.declared.values.Accessed.{Accessed}
use Rattle.cs_units.specs.declared.values.Marked.{Marked}
use Rattle.cs_units.specs.Modifiers.{some_spot, no_spot, flag_given, flag, access_of, no_access, public_access, internal_access, private_access, protected_access, given_access, access, marked, modifiers, unmarked}
use Rattle.cs_units.specs.Members.{no_params, one_param, empty_params, some_params, params, no_body, given_body, body}
use Rattle.cs_layout.specs.Pieces.{Piece, gap, token}
use Rattle.cs_layout.specs.Words as layout
use Rattle.cs_layout.specs.Words.{fixed}
use Rattle.cs_unit_layout.specs.declared.headwords.Headword.{Headword}
use Rattle.cs_unit_layout.specs.declared.headwords.Headword.TheVariants as begin
use Rattle.cs_unit_layout.specs.Heads.{headword, access_pieces, flag_pieces, mods_pieces, params_pieces}
use Rattle.cs_unit_layout.specs.Members.{body_behind}
use Rattle.cs_wellformed.specs.Words.{IsParam}
use Rattle.cs_roundtrip_types.specs.Spells.{lexemes, Spells}
use Rattle.cs_roundtrip_types.proofs.Spelling.{says_nothing, skips, takes, says_then, says_made, says_so, says_like, says_first, says_second}
use Rattle.cs_roundtrip_types.proofs.Types.{all_first, all_others, same_param, SameParams, says_param, says_more_params}
use Rattle.cs_roundtrip_statements.proofs.Lines.{says_braced}
use Rattle.cs_roundtrip_members.specs.Members.{IsBody}
use Rattle.cs_roundtrip_members.specs.Inside.{IsInside}

-- a word that stands, and one that doesn't
flag_on : (k word : ℕ) → has (k ∷ []) (kind_of (lexeme.Keyword word)) ≡ true → Spells (flag k) (token (lexeme.Keyword word) ∷ gap (32 ∷ []) ∷ []) (λ o. is_some o ≡ true)
flag_on k word is =
    says_first (k ∷ []) (gives no_spot) (takes (k ∷ []) spot_of (lexeme.Keyword word) is (λ t _. skips (32 ∷ []) (says_nothing (some_spot (spot_of t)) refl)))

flag_off : (k : ℕ) → Spells (flag k) [] (λ o. o ≡ None)
flag_off k = says_second (k ∷ []) (flag_given k) (says_nothing no_spot refl)

says_flag : (k word : ℕ) (h : Headword) (b : Bool) → has (k ∷ []) (kind_of (lexeme.Keyword word)) ≡ true → headword h ≡ token (lexeme.Keyword word) ∷ gap (32 ∷ []) ∷ []
    → Spells (flag k) (flag_pieces b h) (λ o. is_some o ≡ b)
says_flag k word h true is e = subst (λ ps. Spells (flag k) ps (λ o. is_some o ≡ true)) (sym e) (flag_on k word is)
says_flag k word h false is e = says_so (flag_off k) (λ o d. ap is_some d)

-- an access word, behind those before it
given : {ps : List Piece} {P : Accessed → Type 0} → Spells given_access ps P → Spells access ps P
given x = says_first access_kinds (gives no_access) x

not_public : {ps : List Piece} {P : Accessed → Type 0} → Spells (either kind (kw_internal ∷ []) internal_access (either kind (kw_private ∷ []) private_access protected_access)) ps P → Spells access ps P
not_public x = given (says_second (kw_public ∷ []) public_access x)

by_private : {ps : List Piece} {P : Accessed → Type 0} → Spells private_access ps P → Spells access ps P
by_private x = not_public (says_second (kw_internal ∷ []) internal_access (says_first (kw_private ∷ []) protected_access x))

by_protected : {ps : List Piece} {P : Accessed → Type 0} → Spells protected_access ps P → Spells access ps P
by_protected x = not_public (says_second (kw_internal ∷ []) internal_access (says_second (kw_private ∷ []) private_access x))

says_access : (a : Option Access) → Spells access (access_pieces a) (λ r. r.access ≡ a)
unfolding headword
says_access None = says_second access_kinds given_access (says_nothing no_access refl)
says_access (Some Public) =
    given
    (says_first (kw_public ∷ []) (either kind (kw_internal ∷ []) internal_access (either kind (kw_private ∷ []) private_access protected_access))
    (takes (kw_public ∷ []) spot_of (lexeme.Keyword 49) refl (λ t _. skips (32 ∷ []) (says_nothing (access_of Public (spot_of t)) refl))))
says_access (Some Internal) =
    not_public
    (says_first (kw_internal ∷ []) (either kind (kw_private ∷ []) private_access protected_access)
    (takes (kw_internal ∷ []) spot_of (lexeme.Keyword 35) refl (λ t _. skips (32 ∷ []) (says_nothing (access_of Internal (spot_of t)) refl))))
says_access (Some Private) =
    by_private
    (takes (kw_private ∷ []) spot_of (lexeme.Keyword 47) refl
    (λ t _. skips (32 ∷ [])
    (says_made (λ more. access_of (cond (is_some more) ProtectedAndInternal Private) (spot_of t)) (flag_off kw_protected) (λ o e. ap (λ z. Some (cond (is_some z) ProtectedAndInternal Private)) e))))
says_access (Some ProtectedAndInternal) =
    by_private
    (takes (kw_private ∷ []) spot_of (lexeme.Keyword 47) refl
    (λ t _. skips (32 ∷ [])
    (says_made (λ more. access_of (cond (is_some more) ProtectedAndInternal Private) (spot_of t)) (flag_on kw_protected 48 refl) (λ o e. ap (λ z. Some (cond z ProtectedAndInternal Private)) e))))
says_access (Some Protected) =
    by_protected
    (takes (kw_protected ∷ []) spot_of (lexeme.Keyword 48) refl
    (λ t _. skips (32 ∷ [])
    (says_made (λ more. access_of (cond (is_some more) ProtectedOrInternal Protected) (spot_of t)) (flag_off kw_internal) (λ o e. ap (λ z. Some (cond (is_some z) ProtectedOrInternal Protected)) e))))
says_access (Some ProtectedOrInternal) =
    by_protected
    (takes (kw_protected ∷ []) spot_of (lexeme.Keyword 48) refl
    (λ t _. skips (32 ∷ [])
    (says_made (λ more. access_of (cond (is_some more) ProtectedOrInternal Protected) (spot_of t)) (flag_on kw_internal 35 refl) (λ o e. ap (λ z. Some (cond z ProtectedOrInternal Protected)) e))))

-- all modifiers
abbrev HasMods : Mods → Marked → Type 0
HasMods m k = k.mods ≡ m

mods_same : (a : Option Access) (b c d e f g h : Bool) (m : Mods) → a ≡ m.access → b ≡ m.is_static → c ≡ m.is_abstract → d ≡ m.is_sealed → e ≡ m.is_virtual → f ≡ m.is_override → g ≡ m.is_readonly → h ≡ m.is_extern
    → (let k : Mods = record { access = a; is_static = b; is_abstract = c; is_sealed = d; is_virtual = e; is_override = f; is_readonly = g; is_extern = h } in k) ≡ m
mods_same a b c d e f g h m p1 p2 p3 p4 p5 p6 p7 p8 = λ i.
    record { access = p1 i; is_static = p2 i; is_abstract = p3 i; is_sealed = p4 i; is_virtual = p5 i; is_override = p6 i; is_readonly = p7 i; is_extern = p8 i }

pub says_modifiers : (m : Mods) → Spells modifiers (mods_pieces m) (HasMods m)
unfolding headword
says_modifiers m =
    says_then (says_access m.access)
    (λ a p1. says_then (says_flag kw_static 58 begin.Static m.is_static refl refl)
    (λ b p2. says_then (says_flag kw_abstract 0 begin.Abstract m.is_abstract refl refl)
    (λ c p3. says_then (says_flag kw_sealed 54 begin.Sealed m.is_sealed refl refl)
    (λ d p4. says_then (says_flag kw_virtual 73 begin.Virtual m.is_virtual refl refl)
    (λ e p5. says_then (says_flag kw_override 45 begin.Override m.is_override refl refl)
    (λ f p6. says_then (says_flag kw_readonly 50 begin.Readonly m.is_readonly refl refl)
    (λ g p7. says_made (λ h. marked a b c d e f g h) (says_flag kw_extern 22 begin.Extern m.is_extern refl refl)
    (λ h p8. mods_same a.access (is_some b) (is_some c) (is_some d) (is_some e) (is_some f) (is_some g) (is_some h) m p1 p2 p3 p4 p5 p6 p7 p8))))))))

-- none
pub says_no_modifiers : Spells modifiers [] (λ k. unmarked k ≡ true)
says_no_modifiers =
    says_then {ps = []} (says_second access_kinds given_access (says_nothing {P = λ a. a ≡ no_access} no_access refl))
    (λ a p1. says_then {ps = []} (flag_off kw_static)
    (λ b p2. says_then {ps = []} (flag_off kw_abstract)
    (λ c p3. says_then {ps = []} (flag_off kw_sealed)
    (λ d p4. says_then {ps = []} (flag_off kw_virtual)
    (λ e p5. says_then {ps = []} (flag_off kw_override)
    (λ f p6. says_then {ps = []} (flag_off kw_readonly)
    (λ g p7. says_made (λ h. marked a b c d e f g h) (flag_off kw_extern) (λ h p8. λ i. unmarked (marked (p1 i) (p2 i) (p3 i) (p4 i) (p5 i) (p6 i) (p7 i) (p8 i))))))))))

-- "(" params ")"
pub says_params : (limit : ℕ) (ps : List Param) → All (IsParam limit) ps → Spells (params limit) (params_pieces ps) (SameParams ps)
unfolding fixed
says_params limit [] h =
    takes (paren ∷ []) (λ _. tt) (lexeme.Sign 2) refl
    (λ _ _. says_first (unparen ∷ []) (some_params limit) (takes (unparen ∷ []) (λ _. tt) (lexeme.Sign 3) refl (λ _ _. says_nothing no_params refl)))
says_params limit (p ∷ ps) h =
    takes (paren ∷ []) (λ _. tt) (lexeme.Sign 2) refl
    (λ _ _. says_second (unparen ∷ []) empty_params
    (says_like
    (says_then (says_param limit p (all_first (IsParam limit) p ps h))
    (λ q e. says_then (says_more_params limit (one_param q) ps (all_others (IsParam limit) p ps h))
    (λ qs d. takes (unparen ∷ []) (λ _. tt) (lexeme.Sign 3) refl (λ _ _. says_nothing qs (d ∙ ap (λ z. z ∷ map bare_param ps) (same_param p q e))))))
    (ap lexemes (append_assoc (layout.param_pieces p) (layout.more_listed (map layout.param_pieces ps)) (token (lexeme.Sign 3) ∷ [])))))

-- block | ";"
abbrev pub SameBlocks : Option Block → Option Block → Type 0
SameBlocks o c = option_map bare_block c ≡ option_map bare_block o

pub says_body : (levels limit blocks : ℕ) (inner : Inner) (o : Option Block) (margin : List ℕ) → IsInside levels limit blocks inner → IsBody levels limit blocks o
    → Spells (body inner) (body_behind o margin) (SameBlocks o)
unfolding fixed
says_body levels limit blocks inner None margin x h =
    says_first (semicolon ∷ []) (given_body inner) (takes (semicolon ∷ []) (λ _. tt) (lexeme.Sign 7) refl (λ _ _. skips (10 ∷ []) (says_nothing no_block refl)))
says_body levels limit blocks inner (Some b) margin x h =
    says_second (semicolon ∷ []) no_body (skips (10 ∷ []) (says_made some_block (says_braced b margin (x.bodies b h)) (λ c e. ap Some e)))
