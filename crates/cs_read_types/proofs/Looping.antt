-- How a loop over rounds ends: no round begins, there is no room, or a round fails.
use Rattle.std.proofs.Common.{◌≡◌, ℕ, suc, ◌+◌, ◌-◌, ◌<◌, ◌≤◌, nat_lt, Bool, true, false, List, refl, ◌∙◌, ap, Err, arith}
use Rattle.std.proofs.lemmas.Bool.{ltb-true}
use Rattle.dc_base.specs.declared.failure.Or.{Or}
use Rattle.dc_base.specs.declared.failure.Or.TheVariants.{NoMemory, Fault as WithFault}
use Rattle.cs_grammar.specs.declared.fault.Fault.{Fault}
use Rattle.cs_grammar.specs.Kinds.{begins}
use Rattle.cs_grammar.specs.Grammar.{Read, Grammar, read_rounds}
use Rattle.cs_grammar.specs.Reads.{is_deep, Reads}
use Rattle.cs_grammar.proofs.Turns.{round}
use Rattle.cs_grammar.proofs.Bind.{and_then-err}

pub deep_on : {T A : Type 0} (kind : T → ℕ) (first : List ℕ) (room : A → Bool) (f : A → Grammar T A) (end counter : ℕ) (a : A) (ts : List T) → counter < end → begins kind first ts ≡ true → room a ≡ false → read_rounds kind first room f (end - counter) a ts ≡ Err (true, ts)
deep_on kind first room f end counter a ts lt e r =
    let fuel : end - counter ≡ suc (end - (counter + 1)) = omega arith in
    rw (fuel, e, r) refl

pub fail_on : {T A : Type 0} (kind : T → ℕ) (first : List ℕ) (room : A → Bool) (f : A → Grammar T A) (end counter : ℕ) (a : A) (ts : List T) (deep : Bool) (left : List T) → counter < end → begins kind first ts ≡ true → room a ≡ true → (f a).reads ts ≡ Err (deep, left) → read_rounds kind first room f (end - counter) a ts ≡ Err (deep, left)
fail_on kind first room f end counter a ts deep left lt e r h =
    let fuel : end - counter ≡ suc (end - (counter + 1)) = omega arith in
    ap (λ k. read_rounds kind first room f k a ts) fuel
    ∙ (round kind first room f (end - (counter + 1)) a ts e r ∙ and_then-err ((f a).reads ts) deep left (read_rounds kind first room f (end - (counter + 1))) h)

-- a fault of a part is one of the whole
pub fails_too : {T A B : Type 0} (r : Read T A) (s : Read T B) (e : Or Fault) (left : List T) → Reads r (Err e) left → ((deep : Bool) → r ≡ Err (deep, left) → s ≡ Err (deep, left)) → Reads s (Err e) left
fails_too r s (WithFault fault) left h k = k (is_deep fault) h
fails_too r s NoMemory left h k = tt

pub not_below : (a b : ℕ) → b ≤ a → nat_lt a b ≡ false
not_below a b le = by_case (nat_lt a b) refl
  where
    by_case : (c : Bool) → nat_lt a b ≡ c → c ≡ false
    by_case true e = let no = ltb-true a b e in absurd (omega arith)
    by_case false e = refl
