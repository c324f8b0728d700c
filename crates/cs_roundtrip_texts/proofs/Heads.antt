-- Modifiers, results and parameters of declarations are written well.
use Rattle.std.proofs.Common.{◌≡◌, ℕ, ◌<◌, Bool, true, false, List, [], ◌∷◌, All, Option, Some, None, refl, sym, ◌∙◌, ap, subst, codes, arith}
use Rattle.std.specs.Prelude.{◌&&◌, ◌||◌, ◌==◌}
use Rattle.std.specs.Char.{is_ascii_alphabetic}
use Rattle.std.specs.List.{list_all}
use Rattle.std.specs.Str.{chars}
use Rattle.unicode_ident.specs.Ident.{is_xid_continue}
use Rattle.unicode_ident.proofs.IdentLemmas.{is_xid_start-ascii}
use Rattle.dc_base.specs.Identifiers.{is_legal}
use Rattle.cs_token.specs.declared.lexeme.Lexeme.TheVariants as lexeme
use Rattle.cs_tree.specs.declared.types.TypeForm.{TypeForm}
use Rattle.cs_tree.specs.declared.types.Param.{Param}
use Rattle.cs_tree.specs.declared.members.Access.{Access}
use Rattle.cs_tree.specs.declared.members.Access.TheVariants.{Public, Private, Protected, Internal, ProtectedOrInternal, ProtectedAndInternal}
use Rattle.cs_tree.specs.declared.members.Mods.{Mods}
use Rattle.cs_tree.specs.declared.members.Explicit.{Explicit}
use Rattle.cs_layout.specs.Pieces.{Piece, gap, token}
use Rattle.cs_layout.specs.Words.{fixed}
use Rattle.cs_unit_layout.specs.declared.headwords.Headword.{Headword}
use Rattle.cs_unit_layout.specs.declared.headwords.Headword.TheVariants as begin
use Rattle.cs_unit_layout.specs.Heads.{headword, access_pieces, flag_pieces, mods_pieces, result_pieces, explicit_pieces, params_pieces}
use Rattle.cs_wellformed.specs.Words.{IsName, IsParam}
use Rattle.cs_roundtrip_members.specs.Members.{IsResult, IsExplicit}
use Rattle.cs_roundtrip_written.specs.Sound.{Before, Sound, Free, Closed}
use Rattle.cs_roundtrip_written.proofs.Sounds.{sound_then, sound_none, sound_where, spaced, takes_free, free_is, is_none, free_dot, puts_sign, puts_keyword}
use Rattle.cs_roundtrip_written.proofs.Words.{letter, sound_path, sound_global, sound_type, sound_params}
use Rattle.cs_roundtrip_written.proofs.Forms.{behind_open, closing}
use Rattle.cs_roundtrip_texts.proofs.Spelled.{and_both}

-- a keyword, a blank, and more
pub word_then : {Post : Before → Type 0} {ps : List Piece} (k : ℕ) → k < 77 → Sound Free ps Post → Sound Free (token (lexeme.Keyword k) ∷ gap (32 ∷ []) ∷ ps) Post
word_then k low x = puts_keyword k low (λ s f. f (lexeme.Keyword k)) (spaced 32 [] refl (sound_where is_none x))

free_all : Sound Free [] Free
free_all = sound_none (λ s f. f)

sound_access : (a : Option Access) → Sound Free (access_pieces a) Free
unfolding headword
sound_access None = free_all
sound_access (Some Public) = word_then 49 (omega arith) free_all
sound_access (Some Private) = word_then 47 (omega arith) free_all
sound_access (Some Protected) = word_then 48 (omega arith) free_all
sound_access (Some Internal) = word_then 35 (omega arith) free_all
sound_access (Some ProtectedOrInternal) = word_then 48 (omega arith) (word_then 35 (omega arith) free_all)
sound_access (Some ProtectedAndInternal) = word_then 47 (omega arith) (word_then 48 (omega arith) free_all)

sound_flag : (k : ℕ) (h : Headword) (b : Bool) → k < 77 → headword h ≡ token (lexeme.Keyword k) ∷ gap (32 ∷ []) ∷ [] → Sound Free (flag_pieces b h) Free
sound_flag k h true low e = subst (λ ps. Sound Free ps Free) (sym e) (word_then k low free_all)
sound_flag k h false low e = free_all

pub sound_mods : (m : Mods) → Sound Free (mods_pieces m) Free
unfolding headword
sound_mods m =
    sound_then (sound_access m.access)
    (sound_then (sound_flag 58 begin.Static m.is_static (omega arith) refl)
    (sound_then (sound_flag 0 begin.Abstract m.is_abstract (omega arith) refl)
    (sound_then (sound_flag 54 begin.Sealed m.is_sealed (omega arith) refl)
    (sound_then (sound_flag 73 begin.Virtual m.is_virtual (omega arith) refl)
    (sound_then (sound_flag 45 begin.Override m.is_override (omega arith) refl)
    (sound_then (sound_flag 50 begin.Readonly m.is_readonly (omega arith) refl) (sound_flag 22 begin.Extern m.is_extern (omega arith) refl)))))))

pub sound_result : (limit : ℕ) (r : Option TypeForm) → IsResult limit r → Sound Free (result_pieces r) Free
unfolding headword fixed
sound_result limit None h = word_then 74 (omega arith) free_all
sound_result limit (Some t) h = sound_then (sound_where (λ s f. takes_free false s f) (sound_type false limit t h)) (spaced 32 [] refl (sound_none is_none))

pub sound_explicit : (e : Option Explicit) → IsExplicit e → Sound Free (explicit_pieces e) Free
unfolding fixed
sound_explicit None h = free_all
sound_explicit (Some e) h =
    sound_where (λ s f. takes_free false s f)
    (sound_global false
    (sound_then (sound_where (λ s f. takes_free false s f) (sound_path false e.path h))
    (puts_sign 9 (omega arith) (λ s c. c 9) (sound_none (λ s q. free_is (Some (lexeme.Sign 9)) s free_dot q)))))

-- "(" params ")"
pub sound_list : (limit : ℕ) (ps : List Param) → All (IsParam limit) ps → Sound Closed (params_pieces ps) Closed
unfolding fixed
sound_list limit ps h = puts_sign 2 (omega arith) (λ s c. c 2) (behind_open (sound_then (sound_params limit ps h) closing))

-- the names that are no keywords
legal : (c : ℕ) (cs : List ℕ) → c < 128 → (c == 95 || is_ascii_alphabetic c) ≡ true → list_all is_xid_continue cs ≡ true → is_legal (c ∷ cs) ≡ true
legal c cs l e h = ap (λ z. (c == 95 || z) && list_all is_xid_continue cs) (is_xid_start-ascii c l) ∙ and_both _ _ e h

pub get_name : IsName (codes "get")
unfolding chars lib.Utf8.encode
get_name = ((codes "get", (refl, refl)), legal 103 (codes "et") (omega arith) refl (letter 101 (codes "t") (omega arith) refl (letter 116 [] (omega arith) refl refl)))

pub set_name : IsName (codes "set")
unfolding chars lib.Utf8.encode
set_name = ((codes "set", (refl, refl)), legal 115 (codes "et") (omega arith) refl (letter 101 (codes "t") (omega arith) refl (letter 116 [] (omega arith) refl refl)))

pub indexer_name : IsName (codes "indexer")
unfolding chars lib.Utf8.encode
indexer_name = (
  (codes "indexer", (refl, refl)),
  legal 105 (codes "ndexer") (omega arith) refl
      (letter 110 (codes "dexer") (omega arith) refl
      (letter 100 (codes "exer") (omega arith) refl
      (letter 101 (codes "xer") (omega arith) refl (letter 120 (codes "er") (omega arith) refl (letter 101 (codes "r") (omega arith) refl (letter 114 [] (omega arith) refl refl)))))),
)
