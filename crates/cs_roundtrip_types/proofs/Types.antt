-- Paths, types and parameters are read back.
use Rattle.std.proofs.Common.{◌≡◌, ℕ, zero, suc, ◌+◌, ◌≤◌, true, nat_lt, List, [], ◌∷◌, ◌++◌, All, map, refl, sym, ◌∙◌, ap, codes, arith}
use Rattle.std.proofs.lemmas.List.{append-nil, append_assoc, map-append}
use Rattle.cs_token.specs.Placed.{Placed as Token}
use Rattle.cs_token.specs.Tokens.{kind_of}
use Rattle.cs_token.specs.declared.lexeme.Lexeme.TheVariants as lexeme
use Rattle.cs_tree.specs.declared.types.Name.{Name}
use Rattle.cs_tree.specs.declared.types.KeywordType.{KeywordType}
use Rattle.cs_tree.specs.declared.types.KeywordType.TheVariants as word_type
use Rattle.cs_tree.specs.declared.types.TypeName.{TypeName}
use Rattle.cs_tree.specs.declared.types.TypeName.TheVariants as type_name
use Rattle.cs_tree.specs.declared.types.TypeForm.{TypeForm}
use Rattle.cs_tree.specs.declared.types.Param.{Param}
use Rattle.cs_tree.specs.declared.types.Way.{Way}
use Rattle.cs_tree.specs.declared.types.Way.TheVariants as passed
use Rattle.cs_tree.specs.Bare.{nowhere, bare_name, bare_type, bare_param}
use Rattle.cs_grammar.specs.Kinds.{has}
use Rattle.cs_grammar.specs.Grammar.{gives, bind, turns}
use Rattle.cs_productions.specs.Kinds.{names, dot, colons, bracket, unbracket, comma, global, keyword_types, kw_ref, kw_out}
use Rattle.cs_productions.specs.Tokens.{kind, spot_of, text_of, text_of_lexeme, name_of, name_text, any_name, keyword_type_of, way_of}
use Rattle.cs_productions.specs.Types.{one_more_name, path, keyword_type, keyword_type_at, type_by_path, named_type, global_type, array_of, one_more_rank, ranks, ty, given_way, way, param, param_of, more_params, one_more_param}
use Rattle.cs_productions.proofs.ExactTypes.{exact_ty, exact_param}
use Rattle.cs_productions.proofs.DeeperTypes.{deeper_ty, deeper_param}
use Rattle.cs_productions.proofs.OneAnswers.{answers_once}
use Rattle.cs_layout.specs.declared.fixed.Fixed.TheVariants as part
use Rattle.cs_layout.specs.Words as layout
use Rattle.cs_layout.specs.Words.{fixed, name, keyword_number}
use Rattle.cs_wellformed.specs.Words.{IsPath, IsTypeName, IsType, IsParam}
use Rattle.cs_roundtrip_types.specs.Laws.{TypesAreReadBack, ParamsAreReadBack}
use Rattle.cs_roundtrip_types.specs.Spells.{lexemes, Spells}
use Rattle.cs_roundtrip_types.proofs.NameKinds.{name_kind}
use Rattle.cs_roundtrip_types.proofs.Spelling.{says_nothing, skips, takes, takes_last, says_then, says_made, says_so, says_like, read_back, says_first, says_second, says_no_round, says_round}

-- what holds of all
pub all_first : {X : Type 0} (P : X → Type 0) (x : X) (xs : List X) → All P (x ∷ xs) → P x
all_first P x xs h = h zero x (omega arith)

pub all_others : {X : Type 0} (P : X → Type 0) (x : X) (xs : List X) → All P (x ∷ xs) → All P xs
all_others P x xs h = λ k d l. h (suc k) d (omega (arith, l))

-- names and paths

text_is : (text : List ℕ) (t : Token) → t.lexeme ≡ lexeme.Name text → text_of t ≡ text
text_is text t e = ap text_of_lexeme e

pub says_name_text : (text : List ℕ) → Spells name_text (name text) (λ n. n ≡ text)
unfolding name
says_name_text text = takes_last names text_of (lexeme.Name text) (name_kind text) (text_is text)

-- a name with its text
abbrev pub HasText : List ℕ → Name → Type 0
HasText text x = x.text ≡ text

pub says_name : (text : List ℕ) → Spells any_name (name text) (HasText text)
unfolding name
says_name text = takes_last names name_of (lexeme.Name text) (name_kind text) (text_is text)

says_one_more_name : (before : List (List ℕ)) (text : List ℕ) → Spells (one_more_name before) (layout.dotted text) (λ r. r ≡ before ++ text ∷ [])
unfolding fixed
says_one_more_name before text =
    takes (dot ∷ []) (λ _. tt) (lexeme.Sign 9) refl (λ _ _. says_made (λ n. before ++ n ∷ []) (says_name_text text) (λ n e. ap (λ m. before ++ m ∷ []) e))

says_more_names : (before texts : List (List ℕ)) → Spells (turns kind (dot ∷ []) (λ _. true) one_more_name before) (layout.more_names texts) (λ r. r ≡ before ++ texts)
says_more_names before [] = says_no_round (dot ∷ []) (λ _. true) one_more_name before (sym (append-nil before))
says_more_names before (text ∷ texts) =
    says_round (dot ∷ []) (λ _. true) one_more_name before refl (says_one_more_name before text)
    (λ r e. says_so (says_more_names r texts) (λ q d. d ∙ (ap (λ z. z ++ texts) e ∙ append_assoc before (text ∷ []) texts)))

pub says_path : (texts : List (List ℕ)) → IsPath texts → Spells path (layout.path texts) (λ r. r ≡ texts)
says_path [] h = absurd h
says_path (text ∷ texts) h =
    says_then (says_name_text text) (λ n e. says_so (says_more_names (n ∷ []) texts) (λ q d. d ∙ ap (λ z. z ∷ texts) e))

-- types

abbrev pub IsNamed : TypeName → ℕ → TypeForm → Type 0
IsNamed x r t = (t.name ≡ x) × (t.ranks ≡ r)

keyword_kind : (k : KeywordType) → has keyword_types (kind_of (lexeme.Keyword (keyword_number k))) ≡ true
keyword_kind word_type.Bool = refl
keyword_kind word_type.Char = refl
keyword_kind word_type.Sbyte = refl
keyword_kind word_type.Byte = refl
keyword_kind word_type.Short = refl
keyword_kind word_type.Ushort = refl
keyword_kind word_type.Int = refl
keyword_kind word_type.Uint = refl
keyword_kind word_type.Long = refl
keyword_kind word_type.Ulong = refl
keyword_kind word_type.Object = refl
keyword_kind word_type.String = refl

keyword_same : (k : KeywordType) → keyword_type_of (kind_of (lexeme.Keyword (keyword_number k))) ≡ k
keyword_same word_type.Bool = refl
keyword_same word_type.Char = refl
keyword_same word_type.Sbyte = refl
keyword_same word_type.Byte = refl
keyword_same word_type.Short = refl
keyword_same word_type.Ushort = refl
keyword_same word_type.Int = refl
keyword_same word_type.Uint = refl
keyword_same word_type.Long = refl
keyword_same word_type.Ulong = refl
keyword_same word_type.Object = refl
keyword_same word_type.String = refl

pub says_keyword_type : (k : KeywordType) → Spells keyword_type (layout.keyword_type k) (IsNamed (type_name.Keyword k) 0)
unfolding layout.keyword_type
says_keyword_type k =
    takes_last keyword_types keyword_type_at (lexeme.Keyword (keyword_number k)) (keyword_kind k)
    (λ t e. (ap (λ l. type_name.Keyword (keyword_type_of (kind_of l))) e ∙ ap type_name.Keyword (keyword_same k), refl))

pub says_type_by_path : (texts : List (List ℕ)) → IsPath texts → Spells type_by_path (fixed part.Global ++ layout.path texts) (IsNamed (type_name.Global texts) 0)
unfolding fixed
says_type_by_path texts h =
    takes (global ∷ []) spot_of (lexeme.Name (codes "global")) refl
    (λ s _. takes (colons ∷ []) (λ _. tt) (lexeme.Sign 33) refl
    (λ _ _. says_made (global_type (spot_of s)) (says_path texts h) (λ names e. (ap type_name.Global e, refl))))

pub says_named_type : (x : TypeName) → IsTypeName x → Spells named_type (layout.type_without_ranks x) (IsNamed x 0)
says_named_type (type_name.Keyword k) h = says_first keyword_types type_by_path (says_keyword_type k)
says_named_type (type_name.Global texts) h = says_second keyword_types keyword_type (says_type_by_path texts h)

says_one_more_rank : (x : TypeName) (r : ℕ) (t : TypeForm) → IsNamed x r t → Spells (one_more_rank t) (fixed part.Brackets) (IsNamed x (r + 1))
unfolding fixed
says_one_more_rank x r t h =
    takes (bracket ∷ []) (λ _. tt) (lexeme.Sign 4) refl
    (λ _ _. takes (unbracket ∷ []) (λ _. tt) (lexeme.Sign 5) refl (λ _ _. says_nothing (array_of t) (h.0, ap (λ n. n + 1) h.1)))

room : (limit r n : ℕ) (t : TypeForm) → t.ranks ≡ r → r + suc n ≤ limit → nat_lt t.ranks limit ≡ true
room limit r n t e l = grind (arith, e, l)

pub says_ranks : (limit : ℕ) (x : TypeName) (r n : ℕ) (t : TypeForm) → IsNamed x r t → r + n ≤ limit → Spells (ranks limit t) (layout.ranks n) (IsNamed x (r + n))
says_ranks limit x r zero t h l = says_no_round (bracket ∷ []) (λ u. nat_lt u.ranks limit) one_more_rank t (h.0, h.1 ∙ omega arith)
says_ranks limit x r (suc n) t h l =
    says_round (bracket ∷ []) (λ u. nat_lt u.ranks limit) one_more_rank t (room limit r n t h.1 l) (says_one_more_rank x r t h)
    (λ u k. says_so (says_ranks limit x (r + 1) n u k (omega (arith, l))) (λ v j. (j.0, j.1 ∙ omega arith)))

-- the same type but for its place
abbrev pub SameType : TypeForm → TypeForm → Type 0
SameType t u = IsNamed t.name t.ranks u

pub same_type : (t u : TypeForm) → SameType t u → bare_type u ≡ bare_type t
same_type t u h = cc

pub says_type : (limit : ℕ) (t : TypeForm) → IsType limit t → Spells (ty limit) (layout.type_pieces t) (SameType t)
says_type limit t h =
    says_then (says_named_type t.name h.0) (λ u k. says_so (says_ranks limit t.name 0 t.ranks u k (omega (arith, h.1))) (λ v j. (j.0, j.1 ∙ omega arith)))

-- parameters

pub says_ref : Spells given_way (layout.way_pieces passed.Ref) (λ v. v ≡ passed.Ref)
unfolding fixed
says_ref =
    says_like (takes_last (kw_ref ∷ kw_out ∷ []) (λ t. way_of (kind t)) (lexeme.Keyword 51) refl (λ t e. ap (λ l. way_of (kind_of l)) e)) refl

pub says_out : Spells given_way (layout.way_pieces passed.Out) (λ v. v ≡ passed.Out)
unfolding fixed
says_out =
    says_like (takes_last (kw_ref ∷ kw_out ∷ []) (λ t. way_of (kind t)) (lexeme.Keyword 44) refl (λ t e. ap (λ l. way_of (kind_of l)) e)) refl

pub says_way : (w : Way) → Spells way (layout.way_pieces w) (λ v. v ≡ w)
says_way passed.Value = says_second (kw_ref ∷ kw_out ∷ []) given_way (says_nothing passed.Value refl)
says_way passed.Ref = says_first (kw_ref ∷ kw_out ∷ []) (gives passed.Value) says_ref
says_way passed.Out = says_first (kw_ref ∷ kw_out ∷ []) (gives passed.Value) says_out

-- the same parameter but for its places
abbrev pub SameParam : Param → Param → Type 0
SameParam p q = (q.way ≡ p.way) × SameType p.ty q.ty × HasText p.name.text q.name

pub same_param : (p q : Param) → SameParam p q → bare_param q ≡ bare_param p
same_param p q h = let ty = same_type p.ty q.ty h.1 in let name : bare_name q.name ≡ bare_name p.name = ap (λ z. record { spot = nowhere; text = z }) h.2 in cc

-- behind its way
pub says_passed : (limit : ℕ) (p : Param) (w : Way) → IsParam limit p → w ≡ p.way
    → Spells (bind (ty limit) (λ t. bind any_name (λ n. gives (param_of w t n)))) (layout.type_pieces p.ty ++ (fixed part.Blank ++ name p.name.text)) (SameParam p)
unfolding fixed
says_passed limit p w h e = says_then (says_type limit p.ty h.0) (λ t k. skips (32 ∷ []) (says_made (param_of w t) (says_name p.name.text) (λ n j. (e, k, j))))

pub says_param : (limit : ℕ) (p : Param) → IsParam limit p → Spells (param limit) (layout.param_pieces p) (SameParam p)
says_param limit p h = says_then (says_way p.way) (λ w e. says_passed limit p w h e)

-- the same parameters
abbrev pub SameParams : List Param → List Param → Type 0
SameParams ps qs = map bare_param qs ≡ map bare_param ps

says_one_more_param : (limit : ℕ) (before : List Param) (p : Param) → IsParam limit p
    → Spells (one_more_param limit before) (fixed part.Comma ++ layout.param_pieces p) (SameParams (before ++ p ∷ []))
unfolding fixed
says_one_more_param limit before p h =
    takes (comma ∷ []) (λ _. tt) (lexeme.Sign 6) refl
    (λ _ _. skips (32 ∷ []) (says_made (λ q. before ++ q ∷ []) (says_param limit p h)
    (λ q e. map-append bare_param before (q ∷ []) ∙ (ap (λ z. map bare_param before ++ z ∷ []) (same_param p q e) ∙ sym (map-append bare_param before (p ∷ []))))))

pub says_more_params : (limit : ℕ) (before ps : List Param) → All (IsParam limit) ps
    → Spells (more_params limit before) (layout.more_listed (map layout.param_pieces ps)) (SameParams (before ++ ps))
says_more_params limit before [] h =
    says_no_round (comma ∷ []) (λ _. true) (one_more_param limit) before (ap (map bare_param) (sym (append-nil before)))
says_more_params limit before (p ∷ ps) h =
    says_like
    (says_round (comma ∷ []) (λ _. true) (one_more_param limit) before refl (says_one_more_param limit before p (all_first (IsParam limit) p ps h))
    (λ qs e. says_so (says_more_params limit qs ps (all_others (IsParam limit) p ps h))
    (λ rs d. d ∙ (map-append bare_param qs ps ∙ (ap (λ z. z ++ map bare_param ps) e ∙ (sym (map-append bare_param (before ++ p ∷ []) ps) ∙ ap (map bare_param) (append_assoc before (p ∷ []) ps)))))))
    (ap lexemes (sym (append_assoc (fixed part.Comma) (layout.param_pieces p) (layout.more_listed (map layout.param_pieces ps)))))

-- the laws

pub types_back : TypesAreReadBack
types_back limit t h =
    read_back (answers_once (exact_ty limit) (exact_ty (limit + 1)) (deeper_ty limit (limit + 1) (omega arith))) (says_so (says_type limit t h) (same_type t))

pub params_back : ParamsAreReadBack
params_back limit p h =
    read_back (answers_once (exact_param limit) (exact_param (limit + 1)) (deeper_param limit (limit + 1) (omega arith))) (says_so (says_param limit p h) (same_param p))
