-- A name or keyword that is written is read as it is.
use Rattle.std.proofs.Common.{◌≡◌, ℕ, ◌<◌, Bool, true, false, cond, List, [], ◌∷◌, ◌++◌, refl, sym, ◌∙◌, ap, arith}
use Rattle.std.specs.Prelude.{◌&&◌, ◌||◌, ◌==◌, slice_index_or, Option, Some, None, IsUtf8, IsTrue}
use Rattle.std.specs.List.{list_all}
use Rattle.std.specs.Int.{is_in_range}
use Rattle.std.specs.Str.{bytes_eq, chars}
use Rattle.std.proofs.Math.Utf8.{encodes}
use Rattle.std.proofs.lemmas.Str.{encodes-chars, encode_ascii}
use Rattle.std.proofs.lemmas.Bool.Decides.{nat_tests}
use Rattle.unicode_ident.specs.Ident.{is_xid_start, is_xid_continue}
use Rattle.unicode_ident.proofs.IdentLemmas.{is_xid_start-ascii, is_xid_continue-ascii, is_xid_start-is_xid_continue}
use Rattle.dc_base.specs.Identifiers.{keywords, is_keyword, is_legal}
use Rattle.cs_token.specs.declared.lexeme.Lexeme.TheVariants.{Name, Keyword}
use Rattle.cs_token.specs.Words.{behind}
use Rattle.cs_token.specs.Tokens.{keyword_number, numbered_name, named, escaped_name, escaped, token_at}
use Rattle.cs_written.specs.Spelled.{name_spelled}
use Rattle.cs_written.proofs.Basics.{taken, skipped, both_true, position_none, position_some, all_below, below, stops, front_all, behind_all}

-- the first character of a word begins one
abbrev pub begins : ℕ → Bool
begins c = c == 95 || is_xid_start c

-- a word that ends before a text is the word that stands there
word_read : (c : ℕ) (cs rest : List ℕ) → begins c ≡ true → list_all is_xid_continue cs ≡ true → stops is_xid_continue rest ≡ true
    → token_at (c ∷ (cs ++ rest)) ≡ Some (named (encodes (c ∷ cs)), rest)
word_read c cs rest b h s =
    taken (c == 95 || is_xid_start c) _ _ b
    ∙ (ap (λ w. Some (named (encodes (c ∷ w)), behind is_xid_continue (cs ++ rest))) (front_all is_xid_continue cs rest h s)
    ∙ ap (λ r. Some (named (encodes (c ∷ cs)), r)) (behind_all is_xid_continue cs rest h s))

or_right : (a b : Bool) → b ≡ true → (a || b) ≡ true
or_right true b e = refl
or_right false b e = e

continues_by : (c : ℕ) (b : Bool) → (c == 95) ≡ b → (b || is_xid_start c) ≡ true → is_xid_continue c ≡ true
continues_by c true e h =
    let same : c ≡ 95 = grind (arith, nat_tests, e) in
    ap is_xid_continue same ∙ is_xid_continue-ascii 95 (omega arith)
continues_by c false e h = is_xid_start-is_xid_continue c h

continues : (c : ℕ) → begins c ≡ true → is_xid_continue c ≡ true
continues c b = continues_by c (c == 95) refl b

legal_all : (cs : List ℕ) → IsTrue (is_legal cs) → list_all is_xid_continue cs ≡ true
legal_all [] h = refl
legal_all (c ∷ cs) h =
    let each = both_true (begins c) (list_all is_xid_continue cs) h in
    ap (λ b. b && list_all is_xid_continue cs) (continues c each.0) ∙ each.1

no_name : IsTrue (is_legal []) → ⊥
no_name h = cc

-- a name that is no keyword
plain_read : (cs name rest : List ℕ) → chars name ≡ cs → IsUtf8 name → IsTrue (is_legal cs) → is_keyword name ≡ false → stops is_xid_continue rest ≡ true
    → token_at (cs ++ rest) ≡ Some (Name name, rest)
plain_read [] name rest e u h k s = absurd (no_name h)
plain_read (c ∷ cs) name rest e u h k s =
    let each = both_true (begins c) (list_all is_xid_continue cs) h in
    let same : encodes (c ∷ cs) ≡ name = ap encodes (sym e) ∙ encodes-chars name u in
    let none : keyword_number name ≡ None = position_none (λ w. bytes_eq w name) keywords k in
    word_read c cs rest each.0 each.1 s ∙ (ap (λ w. Some (named w, rest)) same ∙ ap (λ o. Some (numbered_name o name, rest)) none)

-- a name that is a keyword's word
escaped_read : (name rest : List ℕ) → IsUtf8 name → IsTrue (is_legal (chars name)) → is_keyword name ≡ true → stops is_xid_continue rest ≡ true
    → token_at (64 ∷ (chars name ++ rest)) ≡ Some (Name name, rest)
escaped_read name rest u h k s =
    let all = legal_all (chars name) h in
    let number = position_some (λ w. bytes_eq w name) keywords k in
    let start : is_xid_start 64 ≡ false = is_xid_start-ascii 64 (omega arith) in
    skipped (64 == 95 || is_xid_start 64) _ _ start
    ∙ (ap (λ w. escaped (encodes w) (behind is_xid_continue (chars name ++ rest))) (front_all is_xid_continue (chars name) rest all s)
    ∙ (ap (λ r. escaped (encodes (chars name)) r) (behind_all is_xid_continue (chars name) rest all s)
    ∙ (ap (λ w. escaped w rest) (encodes-chars name u) ∙ ap (λ o. escaped_name o name rest) number.1)))

name_by : (b : Bool) (name rest : List ℕ) → is_keyword name ≡ b → IsUtf8 name → IsTrue (is_legal (chars name)) → stops is_xid_continue rest ≡ true
    → token_at (cond b (64 ∷ chars name) (chars name) ++ rest) ≡ Some (Name name, rest)
name_by true name rest k u h s = escaped_read name rest u h k s
name_by false name rest k u h s = plain_read (chars name) name rest refl u h k s

pub name_read : (name rest : List ℕ) → IsUtf8 name → IsTrue (is_legal (chars name)) → stops is_xid_continue rest ≡ true → token_at (name_spelled name ++ rest) ≡ Some (Name name, rest)
name_read name rest u h s = name_by (is_keyword name) name rest refl u h s

-- what computing shows of the keywords: they have their numbers, and small letters alone
pub is_small : ℕ → Bool
is_small c = is_in_range 97 122 c

same_number : Option ℕ → ℕ → Bool
same_number None k = false
same_number (Some j) k = j == k

is_same : (o : Option ℕ) (k : ℕ) → same_number o k ≡ true → o ≡ Some k
unfolding same_number
is_same None k e = absurd (cc)
is_same (Some j) k e = let same : j ≡ k = grind (arith, nat_tests, e) in ap (λ n. Some n) same

is_word : List ℕ → Bool
is_word [] = false
is_word (c ∷ cs) = is_small c && list_all is_small cs

keyword_fits : ℕ → Bool
keyword_fits k = let w = slice_index_or keywords k [] in is_word w && same_number (keyword_number w) k

keywords_fit : all_below keyword_fits 77 ≡ true
unfolding keyword_fits is_word is_small same_number
keywords_fit = refl

small_low : (c : ℕ) → is_small c ≡ true → c < 128
unfolding is_small
small_low c h = grind (arith, nat_tests, h)

pub small_begins : (c : ℕ) → is_small c ≡ true → begins c ≡ true
unfolding is_small
small_begins c h =
    let start : is_xid_start c ≡ true = is_xid_start-ascii c (small_low c h) ∙ or_right (is_in_range 65 90 c) (is_in_range 97 122 c) h in
    or_right (c == 95) (is_xid_start c) start

small_all : (cs : List ℕ) → list_all is_small cs ≡ true → list_all is_xid_continue cs ≡ true
small_all [] h = refl
small_all (c ∷ cs) h =
    let each = both_true (is_small c) (list_all is_small cs) h in
    ap (λ b. b && list_all is_xid_continue cs) (continues c (small_begins c each.0)) ∙ small_all cs each.1

small_ascii : (cs : List ℕ) → list_all is_small cs ≡ true → encodes cs ≡ cs
small_ascii [] h = refl
small_ascii (c ∷ cs) h =
    let each = both_true (is_small c) (list_all is_small cs) h in
    ap (λ x. x ++ encodes cs) (encode_ascii c (small_low c each.0)) ∙ ap (λ x. c ∷ x) (small_ascii cs each.1)

keyword_by : (w rest : List ℕ) (k : ℕ) → is_word w ≡ true → keyword_number w ≡ Some k → stops is_xid_continue rest ≡ true → token_at (w ++ rest) ≡ Some (Keyword k, rest)
unfolding is_word
keyword_by [] rest k h n s = absurd (cc)
keyword_by (c ∷ cs) rest k h n s =
    let each = both_true (is_small c) (list_all is_small cs) h in
    word_read c cs rest (small_begins c each.0) (small_all cs each.1) s
    ∙ (ap (λ w. Some (named w, rest)) (small_ascii (c ∷ cs) h) ∙ ap (λ o. Some (numbered_name o (c ∷ cs), rest)) n)

pub keyword_read : (k : ℕ) (rest : List ℕ) → k < 77 → stops is_xid_continue rest ≡ true → token_at (slice_index_or keywords k [] ++ rest) ≡ Some (Keyword k, rest)
unfolding keyword_fits
keyword_read k rest h s =
    let fits = both_true (is_word (slice_index_or keywords k [])) (same_number (keyword_number (slice_index_or keywords k [])) k) (below keyword_fits 77 k keywords_fit h) in
    keyword_by (slice_index_or keywords k []) rest k fits.0 (is_same _ k fits.1) s

first_by : (w : List ℕ) → is_word w ≡ true → (c : ℕ) × (tail : List ℕ) × (w ≡ c ∷ tail) × (is_small c ≡ true)
unfolding is_word
first_by [] h = absurd (cc)
first_by (c ∷ cs) h = (c, cs, refl, (both_true (is_small c) (list_all is_small cs) h).0)

-- how a keyword begins
pub keyword_first : (k : ℕ) → k < 77 → (c : ℕ) × (tail : List ℕ) × (slice_index_or keywords k [] ≡ c ∷ tail) × (is_small c ≡ true)
unfolding keyword_fits
keyword_first k h = first_by (slice_index_or keywords k []) (both_true (is_word (slice_index_or keywords k [])) (same_number (keyword_number (slice_index_or keywords k [])) k) (below keyword_fits 77 k keywords_fit h)).0
