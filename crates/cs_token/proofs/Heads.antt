-- Which token a text begins with, by its first character.
use Rattle.std.proofs.Common.{◌≡◌, ℕ, Bool, true, false, cond, List, ◌∷◌, Some, refl, sym, ◌∙◌, ap}
use Rattle.std.specs.Prelude.{◌||◌, ◌==◌}
use Rattle.std.proofs.Math.Utf8.{encodes}
use Rattle.unicode_ident.specs.Ident.{is_xid_start, is_xid_continue}
use Rattle.cs_token.specs.Words.{front, behind}
use Rattle.cs_token.specs.Tokens.{named, token_at}

taken : {A : Type 0} (b : Bool) (x y : A) → b ≡ true → cond b x y ≡ x
taken true x y e = refl
taken false x y e = absurd (cc)

-- a name or keyword, whose first character may also stand within one
pub word_here : (text : List ℕ) (c : ℕ) (rest : List ℕ) → text ≡ c ∷ rest → (c == 95 || is_xid_start c) ≡ true → is_xid_continue c ≡ true
    → token_at text ≡ Some (named (encodes (front is_xid_continue text)), behind is_xid_continue text)
word_here text c rest e h k =
    let head : token_at (c ∷ rest) ≡ Some (named (encodes (c ∷ front is_xid_continue rest)), behind is_xid_continue rest) = taken (c == 95 || is_xid_start c) _ _ h in
    let fronted : front is_xid_continue (c ∷ rest) ≡ c ∷ front is_xid_continue rest = taken (is_xid_continue c) _ _ k in
    let rested : behind is_xid_continue (c ∷ rest) ≡ behind is_xid_continue rest = taken (is_xid_continue c) _ _ k in
    ap token_at e
    ∙ (head ∙ (ap (λ w. Some (named (encodes w), behind is_xid_continue rest)) (sym (ap (front is_xid_continue) e ∙ fronted))
    ∙ ap (λ r. Some (named (encodes (front is_xid_continue text)), r)) (sym (ap (behind is_xid_continue) e ∙ rested))))
