-- What is read of an item, by what stands behind its modifiers and by whether there is room for a type.
use Rattle.std.proofs.Common.{◌≡◌, ℕ, zero, suc, ◌-◌, ◌<◌, Bool, true, false, List, refl, ◌∙◌, Ok, Err, arith}
use Rattle.cs_token.specs.Placed.{Placed as Token}
use Rattle.cs_grammar.specs.Kinds.{begins}
use Rattle.cs_grammar.proofs.Bind.{and_then-ok, and_then-err}
use Rattle.cs_productions.specs.Tokens.{kind}
use Rattle.cs_units.specs.declared.values.Marked.{Marked}
use Rattle.cs_units.specs.Kinds.{type_words}
use Rattle.cs_units.specs.Modifiers.{modifiers}
use Rattle.cs_references.specs.Declarations.{member_item, type_item, item_behind, lowest_item, item_at}

pub no_modifiers : (limit : ℕ) (n : ℕ) (ts : List Token) (deep : Bool) (left : List Token) → modifiers.reads ts ≡ Err (deep, left) → (item_at limit n).reads ts ≡ Err (deep, left)
no_modifiers limit zero ts deep left e = and_then-err (modifiers.reads ts) deep left (λ m mid. (item_behind false limit (lowest_item limit) m).reads mid) e
no_modifiers limit (suc n) ts deep left e = and_then-err (modifiers.reads ts) deep left (λ m mid. (item_behind true limit (item_at limit n) m).reads mid) e

pub of_member : (limit : ℕ) (n : ℕ) (ts : List Token) (m : Marked) (mid : List Token) → modifiers.reads ts ≡ Ok (m, mid) → begins kind type_words mid ≡ false → (item_at limit n).reads ts ≡ (member_item limit m).reads mid
of_member limit zero ts m mid e b =
    and_then-ok (modifiers.reads ts) m mid (λ m mid. (item_behind false limit (lowest_item limit) m).reads mid) e ∙ (rw b refl)
of_member limit (suc n) ts m mid e b =
    and_then-ok (modifiers.reads ts) m mid (λ m mid. (item_behind true limit (item_at limit n) m).reads mid) e ∙ (rw b refl)

pub of_type : (limit : ℕ) (n : ℕ) (ts : List Token) (m : Marked) (mid : List Token) → 0 < n → modifiers.reads ts ≡ Ok (m, mid) → begins kind type_words mid ≡ true → (item_at limit n).reads ts ≡ (type_item limit (item_at limit (n - 1)) m).reads mid
of_type limit zero ts m mid some e b = absurd (omega arith)
of_type limit (suc n) ts m mid some e b =
    let less : suc n - 1 ≡ n = omega arith in
    rw less
    (and_then-ok (modifiers.reads ts) m mid (λ m mid. (item_behind true limit (item_at limit n) m).reads mid) e ∙ (rw b refl))
