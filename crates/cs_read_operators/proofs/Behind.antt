-- Where no operator begins behind a sum, none of its levels goes on.
use Rattle.std.proofs.Common.{◌≡◌, ℕ, Bool, true, false, List, [], ◌∷◌, length, refl, sym, ◌∙◌, ap, nat_lt, Ok, Err}
use Rattle.cs_token.specs.Placed.{Placed as Token}
use Rattle.cs_productions.specs.declared.values.Measured.{Measured}
use Rattle.cs_productions.specs.declared.values.Part.{Part}
use Rattle.cs_productions.specs.declared.values.Part.TheVariants as part
use Rattle.cs_grammar.specs.Kinds.{has, begins, subset}
use Rattle.cs_grammar.specs.Grammar.{Read, and_then}
use Rattle.cs_grammar.proofs.Sets.{subset-has}
use Rattle.cs_grammar.proofs.Bind.{and_then-ok}
use Rattle.cs_grammar.proofs.Turns.{stop}
use Rattle.cs_productions.specs.Kinds.{question, shift_operators, relational_operators, equality_operators, amp, caret, bar, both, either_one}
use Rattle.cs_productions.specs.Tokens.{kind}
use Rattle.cs_productions.specs.Inner.{Inner}
use Rattle.cs_productions.specs.Operators.{one_binary, one_relation, binaries, relations, choosing, chosen, additive, conditional}
use Rattle.cs_read_operators.specs.Behind as behind

-- behind what was read of a sum
after_sum : ℕ → Inner → Read Token Measured → Read Token Measured
after_sum n inner r =
    and_then (and_then (and_then (and_then (and_then (and_then (and_then (and_then (and_then r
    (λ b. (binaries n inner shift_operators part.Additive b).reads)) (λ b. (relations n inner b).reads)) (λ b. (binaries n inner equality_operators part.Relational b).reads))
    (λ b. (binaries n inner (amp ∷ []) part.Equality b).reads)) (λ b. (binaries n inner (caret ∷ []) part.And b).reads)) (λ b. (binaries n inner (bar ∷ []) part.ExclusiveOr b).reads))
    (λ b. (binaries n inner (both ∷ []) part.InclusiveOr b).reads)) (λ b. (binaries n inner (either_one ∷ []) part.ConditionalAnd b).reads)) (λ b. (chosen n inner b).reads)

pub from_sum : (n : ℕ) (inner : Inner) (first sum : Measured) (ts mid : List Token) → (additive n inner first).reads ts ≡ Ok (sum, mid) → (conditional n inner first).reads ts ≡ (behind.conditional n inner sum).reads mid
unfolding after_sum
from_sum n inner first sum ts mid e = ap (after_sum n inner) e

pub no_sum : (n : ℕ) (inner : Inner) (first : Measured) (ts left : List Token) (deep : Bool) → (additive n inner first).reads ts ≡ Err (deep, left) → (conditional n inner first).reads ts ≡ Err (deep, left)
unfolding after_sum
no_sum n inner first ts left deep e = ap (after_sum n inner) e

not_both : (b : Bool) → b ≡ true → b ≡ false → ⊥
not_both b t f = cc

has_none : (some all : List ℕ) (k : ℕ) (b : Bool) → subset some all ≡ true → has some k ≡ b → has all k ≡ false → b ≡ false
has_none some all k true s e f = absurd (not_both (has all k) (subset-has some all k s e) f)
has_none some all k false s e f = refl

none_of : (some all : List ℕ) (ts : List Token) → subset some all ≡ true → begins kind all ts ≡ false → begins kind some ts ≡ false
none_of some all [] s e = refl
none_of some all (t ∷ ts) s e = has_none some all (kind t) (has some (kind t)) s refl e

still : (n : ℕ) (inner : Inner) (operators : List ℕ) (right : Part) (a : Measured) (ts : List Token) → begins kind operators ts ≡ false → (binaries n inner operators right a).reads ts ≡ Ok (a, ts)
still n inner operators right a ts e = stop kind operators (λ b. nat_lt b.height n) (one_binary inner operators right) (length ts) a ts e

unrelated : (n : ℕ) (inner : Inner) (a : Measured) (ts : List Token) → begins kind relational_operators ts ≡ false → (relations n inner a).reads ts ≡ Ok (a, ts)
unrelated n inner a ts e = stop kind relational_operators (λ b. nat_lt b.height n) (one_relation inner) (length ts) a ts e

unchosen_by : (room : Bool) (n : ℕ) (inner : Inner) (a : Measured) (ts : List Token) → nat_lt a.height n ≡ room → begins kind (question ∷ []) ts ≡ false → (chosen n inner a).reads ts ≡ Ok (a, ts)
unchosen_by true n inner a ts r e = rw (r, e) refl
unchosen_by false n inner a ts r e = rw (r, e) refl

onward : (r : Read Token Measured) (k : Measured → List Token → Read Token Measured) (a : Measured) (ts : List Token) → r ≡ Ok (a, ts) → k a ts ≡ Ok (a, ts) → and_then r k ≡ Ok (a, ts)
onward r k a ts e f = and_then-ok r a ts k e ∙ f

pub nothing_behind : (n : ℕ) (inner : Inner) (a : Measured) (ts : List Token) → begins kind behind.behind_sums ts ≡ false → (behind.conditional n inner a).reads ts ≡ Ok (a, ts)
nothing_behind n inner a ts e =
    let none = λ (some : List ℕ) (s : subset some behind.behind_sums ≡ true). none_of some behind.behind_sums ts s e in
    let shift : (behind.shift n inner a).reads ts ≡ Ok (a, ts) = still n inner shift_operators part.Additive a ts (none shift_operators refl) in
    let relational : (behind.relational n inner a).reads ts ≡ Ok (a, ts) = onward ((behind.shift n inner a).reads ts) (λ b. (relations n inner b).reads) a ts shift (unrelated n inner a ts (none relational_operators refl)) in
    let equality : (behind.equality n inner a).reads ts ≡ Ok (a, ts) = onward ((behind.relational n inner a).reads ts) (λ b. (binaries n inner equality_operators part.Relational b).reads) a ts relational (still n inner equality_operators part.Relational a ts (none equality_operators refl)) in
    let and : (behind.and n inner a).reads ts ≡ Ok (a, ts) = onward ((behind.equality n inner a).reads ts) (λ b. (binaries n inner (amp ∷ []) part.Equality b).reads) a ts equality (still n inner (amp ∷ []) part.Equality a ts (none (amp ∷ []) refl)) in
    let exclusive : (behind.exclusive_or n inner a).reads ts ≡ Ok (a, ts) = onward ((behind.and n inner a).reads ts) (λ b. (binaries n inner (caret ∷ []) part.And b).reads) a ts and (still n inner (caret ∷ []) part.And a ts (none (caret ∷ []) refl)) in
    let inclusive : (behind.inclusive_or n inner a).reads ts ≡ Ok (a, ts) = onward ((behind.exclusive_or n inner a).reads ts) (λ b. (binaries n inner (bar ∷ []) part.ExclusiveOr b).reads) a ts exclusive (still n inner (bar ∷ []) part.ExclusiveOr a ts (none (bar ∷ []) refl)) in
    let both_of : (behind.conditional_and n inner a).reads ts ≡ Ok (a, ts) = onward ((behind.inclusive_or n inner a).reads ts) (λ b. (binaries n inner (both ∷ []) part.InclusiveOr b).reads) a ts inclusive (still n inner (both ∷ []) part.InclusiveOr a ts (none (both ∷ []) refl)) in
    let either_of : (behind.conditional_or n inner a).reads ts ≡ Ok (a, ts) = onward ((behind.conditional_and n inner a).reads ts) (λ b. (binaries n inner (either_one ∷ []) part.ConditionalAnd b).reads) a ts both_of (still n inner (either_one ∷ []) part.ConditionalAnd a ts (none (either_one ∷ []) refl)) in
    onward ((behind.conditional_or n inner a).reads ts) (λ b. (chosen n inner b).reads) a ts either_of (unchosen_by (nat_lt a.height n) n inner a ts refl (none (question ∷ []) refl))
