-- Names, paths, types, literals and parameters are written well.
use Rattle.std.proofs.Common.{◌≡◌, ℕ, zero, suc, ◌<◌, ◌==◌, ◌||◌, ◌&&◌, Bool, true, false, List, [], ◌∷◌, ◌++◌, All, map, Some, refl, ◌∙◌, ap, codes, arith}
use Rattle.std.specs.List.{list_all}
use Rattle.std.specs.Char.{is_ascii_alphanumeric}
use Rattle.unicode_ident.specs.Ident.{is_xid_continue}
use Rattle.unicode_ident.proofs.IdentLemmas.{is_xid_start-ascii, is_xid_continue-ascii}
use Rattle.dc_base.specs.Identifiers.{is_legal}
use Rattle.std.specs.Str.{chars}
use Rattle.cs_token.specs.declared.lexeme.Lexeme.{Lexeme}
use Rattle.cs_token.specs.declared.lexeme.Lexeme.TheVariants as lexeme
use Rattle.cs_tree.specs.declared.types.KeywordType.{KeywordType}
use Rattle.cs_tree.specs.declared.types.KeywordType.TheVariants as word_type
use Rattle.cs_tree.specs.declared.types.TypeName.{TypeName}
use Rattle.cs_tree.specs.declared.types.TypeName.TheVariants as type_name
use Rattle.cs_tree.specs.declared.types.TypeForm.{TypeForm}
use Rattle.cs_tree.specs.declared.types.Param.{Param}
use Rattle.cs_tree.specs.declared.types.Way.{Way}
use Rattle.cs_tree.specs.declared.types.Way.TheVariants as passed
use Rattle.cs_tree.specs.declared.forms.Literal.{Literal}
use Rattle.cs_tree.specs.declared.forms.Literal.TheVariants as literal
use Rattle.cs_written.specs.Spelled.{IsSpellable}
use Rattle.cs_layout.specs.Pieces.{Piece, token}
use Rattle.cs_layout.specs.declared.fixed.Fixed.TheVariants as part
use Rattle.cs_layout.specs.Words as layout
use Rattle.cs_layout.specs.Words.{fixed, name, keyword_number}
use Rattle.cs_wellformed.specs.Words.{IsName, IsLiteral, IsPath, IsTypeName, IsType, IsParam}
use Rattle.cs_roundtrip_types.proofs.Types.{all_first, all_others}
use Rattle.cs_roundtrip_written.specs.Sound.{Before, Sound, Free, Closed, is_sign, Takes}
use Rattle.cs_roundtrip_written.proofs.Sounds.{sound_then, sound_none, sound_where, puts, spaced, closed_word, closed_free, takes_free, free_is, closed_is, is_none, free_index, free_unindex, free_dot, free_colons, puts_sign, puts_keyword}

-- one word or literal
pub sound_word : (m : Bool) (l : Lexeme) → IsSpellable l → is_sign l ≡ false → Sound (Takes m) (token l ∷ []) Closed
sound_word m l spells word = puts l spells (λ s t. t.words l word) (sound_none (λ s e. closed_is (Some l) s (closed_word l word) e))

pub sound_name : (m : Bool) (text : List ℕ) → IsName text → Sound (Takes m) (name text) Closed
unfolding name
sound_name m text h = sound_word m (lexeme.Name text) h refl

-- the name `global`
pub letter : (c : ℕ) (cs : List ℕ) → c < 128 → (is_ascii_alphanumeric c || c == 95) ≡ true → list_all is_xid_continue cs ≡ true → list_all is_xid_continue (c ∷ cs) ≡ true
letter c cs l e h = ap (λ z. z && list_all is_xid_continue cs) (is_xid_continue-ascii c l ∙ e) ∙ h

legal_letters : is_legal (codes "global") ≡ true
legal_letters =
    ap (λ z. (103 == 95 || z) && list_all is_xid_continue (codes "lobal")) (is_xid_start-ascii 103 (omega arith))
    ∙ letter 108 (codes "obal") (omega arith) refl
    (letter 111 (codes "bal") (omega arith) refl (letter 98 (codes "al") (omega arith) refl (letter 97 (codes "l") (omega arith) refl (letter 108 [] (omega arith) refl refl))))

global_name : IsName (codes "global")
unfolding chars lib.Utf8.encode
global_name = ((codes "global", (refl, refl)), legal_letters)

sound_more_names : (texts : List (List ℕ)) → All IsName texts → Sound Closed (layout.more_names texts) Closed
unfolding fixed
sound_more_names [] h = sound_none (λ s c. c)
sound_more_names (text ∷ texts) h =
    puts_sign 9 (omega arith) (λ s c. c 9)
    (sound_then (sound_where (λ s e. takes_free false s (free_is (Some (lexeme.Sign 9)) s free_dot e)) (sound_name false text (all_first IsName text texts h)))
    (sound_more_names texts (all_others IsName text texts h)))

pub sound_path : (m : Bool) (texts : List (List ℕ)) → IsPath texts → Sound (Takes m) (layout.path texts) Closed
sound_path m [] h = absurd h
sound_path m (text ∷ texts) h = sound_then (sound_name m text h.0) (sound_more_names texts h.1)

pub sound_global : {Post : Before → Type 0} {ps : List Piece} (m : Bool) → Sound Free ps Post → Sound (Takes m) (fixed part.Global ++ ps) Post
unfolding fixed
sound_global m x =
    puts (lexeme.Name (codes "global")) global_name (λ s t. t.words (lexeme.Name (codes "global")) refl)
    (puts_sign 33 (omega arith) (λ s e. closed_is (Some (lexeme.Name (codes "global"))) s (closed_word (lexeme.Name (codes "global")) refl) e 33)
    (sound_where (λ s e. free_is (Some (lexeme.Sign 33)) s free_colons e) x))

keyword_low : (k : KeywordType) → keyword_number k < 77
keyword_low word_type.Bool = omega arith
keyword_low word_type.Char = omega arith
keyword_low word_type.Sbyte = omega arith
keyword_low word_type.Byte = omega arith
keyword_low word_type.Short = omega arith
keyword_low word_type.Ushort = omega arith
keyword_low word_type.Int = omega arith
keyword_low word_type.Uint = omega arith
keyword_low word_type.Long = omega arith
keyword_low word_type.Ulong = omega arith
keyword_low word_type.Object = omega arith
keyword_low word_type.String = omega arith

pub sound_type_name : (m : Bool) (x : TypeName) → IsTypeName x → Sound (Takes m) (layout.type_without_ranks x) Closed
unfolding layout.keyword_type
sound_type_name m (type_name.Keyword k) h = sound_word m (lexeme.Keyword (keyword_number k)) (keyword_low k) refl
sound_type_name m (type_name.Global texts) h = sound_global m (sound_where (λ s f. takes_free false s f) (sound_path false texts h))

pub sound_ranks : (n : ℕ) → Sound Closed (layout.ranks n) Closed
unfolding fixed
sound_ranks zero = sound_none (λ s c. c)
sound_ranks (suc n) =
    puts_sign 4 (omega arith) (λ s c. c 4)
    (puts_sign 5 (omega arith) (λ s e. free_is (Some (lexeme.Sign 4)) s free_index e (lexeme.Sign 5))
    (sound_where (λ s e. closed_free s (free_is (Some (lexeme.Sign 5)) s free_unindex e)) (sound_ranks n)))

pub sound_type : (m : Bool) (limit : ℕ) (t : TypeForm) → IsType limit t → Sound (Takes m) (layout.type_pieces t) Closed
sound_type m limit t h = sound_then (sound_type_name m t.name h.0) (sound_ranks t.ranks)

pub sound_literal : (m : Bool) (l : Literal) → IsLiteral l → Sound (Takes m) (layout.literal_pieces l) Closed
unfolding fixed layout.number layout.character layout.text
sound_literal m (literal.Number n s) h = sound_word m (lexeme.Number n s) h refl
sound_literal m (literal.Char unit) h = sound_word m (lexeme.Char unit) h refl
sound_literal m (literal.Text units) h = sound_word m (lexeme.Literal units) h refl
sound_literal m (literal.Bool true) h = sound_word m (lexeme.Keyword 64) (omega arith) refl
sound_literal m (literal.Bool false) h = sound_word m (lexeme.Keyword 23) (omega arith) refl
sound_literal m literal.Null h = sound_word m (lexeme.Keyword 41) (omega arith) refl

-- how an argument or a parameter is passed
pub sound_way : (w : Way) → Sound Free (layout.way_pieces w) Free
unfolding fixed
sound_way passed.Value = sound_none (λ s f. f)
sound_way passed.Ref = puts_keyword 51 (omega arith) (λ s f. f (lexeme.Keyword 51)) (spaced 32 [] refl (sound_none is_none))
sound_way passed.Out = puts_keyword 44 (omega arith) (λ s f. f (lexeme.Keyword 44)) (spaced 32 [] refl (sound_none is_none))

pub sound_blank_name : {Pre : Before → Type 0} (text : List ℕ) → IsName text → Sound Pre (fixed part.Blank ++ name text) Closed
unfolding fixed
sound_blank_name text h = spaced 32 [] refl (sound_where (λ s e. takes_free false s (is_none s e)) (sound_name false text h))

sound_param : (limit : ℕ) (p : Param) → IsParam limit p → Sound Free (layout.param_pieces p) Closed
sound_param limit p h =
    sound_then (sound_way p.way) (sound_then (sound_where (λ s f. takes_free false s f) (sound_type false limit p.ty h.0)) (sound_blank_name p.name.text h.1))

-- parts with commas between them
pub sound_comma : {Post : Before → Type 0} {ps : List Piece} → Sound Free ps Post → Sound Closed (fixed part.Comma ++ ps) Post
unfolding fixed
sound_comma x = puts_sign 6 (omega arith) (λ s c. c 6) (spaced 32 [] refl (sound_where is_none x))

sound_more_params : (limit : ℕ) (ps : List Param) → All (IsParam limit) ps → Sound Closed (layout.more_listed (map layout.param_pieces ps)) Closed
sound_more_params limit [] h = sound_none (λ s c. c)
sound_more_params limit (p ∷ ps) h =
    sound_comma (sound_then (sound_param limit p (all_first (IsParam limit) p ps h)) (sound_more_params limit ps (all_others (IsParam limit) p ps h)))

pub sound_params : (limit : ℕ) (ps : List Param) → All (IsParam limit) ps → Sound Free (layout.listed (map layout.param_pieces ps)) Closed
sound_params limit [] h = sound_none closed_free
sound_params limit (p ∷ ps) h = sound_then (sound_param limit p (all_first (IsParam limit) p ps h)) (sound_more_params limit ps (all_others (IsParam limit) p ps h))
