-- What the characters so far tell of a word.
use Rattle.std.proofs.Common.{◌≡◌, ℕ, Bool, true, cond, List, [], ◌∷◌, ◌++◌, refl, sym, ◌∙◌, ap}
use Rattle.std.specs.Str.{chars}
use Rattle.std.proofs.Math.Utf8.{encodes, encode}
use Rattle.std.proofs.lemmas.List.{append_assoc, append-nil, append_cancel_right}
use Rattle.std.proofs.lemmas.Str.{encodes-append}
use Rattle.unicode_ident.specs.Ident.{is_xid_continue}
use Rattle.cs_token.specs.Words.{front, behind}
use Rattle.cs_token.specs.Pieces.{Follows, BeginsWithPart}

-- the characters so far, and this rest
pub record Passed (text left : List ℕ) : Type 0 where
  pub word : List ℕ
  pub read : text ≡ encodes word ++ left
  pub fronted : front is_xid_continue (chars text) ≡ word ++ front is_xid_continue (chars left)
  pub rested : behind is_xid_continue (chars text) ≡ behind is_xid_continue (chars left)

pub passed_none : (text : List ℕ) → Passed text text
passed_none text = record { word = []; read = refl; fronted = refl; rested = refl }

front_passed : (c : ℕ) (b : Bool) (cs : List ℕ) → b ≡ true → cond b (c ∷ front is_xid_continue cs) [] ≡ c ∷ front is_xid_continue cs
front_passed c b cs e = ap (λ x. cond x (c ∷ front is_xid_continue cs) []) e

behind_passed : (c : ℕ) (b : Bool) (cs : List ℕ) → b ≡ true → cond b (behind is_xid_continue cs) (c ∷ cs) ≡ behind is_xid_continue cs
behind_passed c b cs e = ap (λ x. cond x (behind is_xid_continue cs) (c ∷ cs)) e

pub passed_more : (text left rest : List ℕ) → Passed text left → BeginsWithPart left rest → Passed text rest
passed_more text left rest k b =
    let c = b.0 in
    let cut = b.1 in
    let here : front is_xid_continue (chars left) ≡ c ∷ front is_xid_continue (chars rest) = ap (front is_xid_continue) cut.seen ∙ front_passed c (is_xid_continue c) (chars rest) cut.passed in
    let past : behind is_xid_continue (chars left) ≡ behind is_xid_continue (chars rest) = ap (behind is_xid_continue) cut.seen ∙ behind_passed c (is_xid_continue c) (chars rest) cut.passed in
    let more : encodes (k.word ++ c ∷ []) ≡ encodes k.word ++ encode c = encodes-append k.word (c ∷ []) ∙ ap (λ l. encodes k.word ++ l) (append-nil (encode c)) in
    record {
      word = k.word ++ c ∷ [];
      read = k.read ∙ (ap (λ l. encodes k.word ++ l) cut.read ∙ (sym (append_assoc (encodes k.word) (encode c) rest) ∙ ap (λ l. l ++ rest) (sym more)));
      fronted = k.fronted ∙ (ap (λ f. k.word ++ f) here ∙ sym (append_assoc k.word (c ∷ []) (front is_xid_continue (chars rest))));
      rested = k.rested ∙ past;
    }

pub follows : (text left : List ℕ) → Passed text left → Follows left text
follows text left k = record { front = encodes k.word; whole = k.read }

pub passed_all : (text left found : List ℕ) → Passed text left → front is_xid_continue (chars left) ≡ [] → text ≡ found ++ left → found ≡ encodes (front is_xid_continue (chars text))
passed_all text left found k e w =
    append_cancel_right found (encodes k.word) left (sym w ∙ k.read) ∙ ap encodes (sym (k.fronted ∙ (ap (λ f. k.word ++ f) e ∙ append-nil k.word)))
