-- Numbers of tokens, and tokens of numbers.
use Rattle.std.proofs.Common.{rules, ◌≡◌, ◌≢◌, ◌∙◌, ℕ, ◌+◌, ◌-◌, ◌*◌, ◌/◌, ◌%◌, ◌^◌, ◌<◌, ◌≤◌, ◌⊎◌, inl, inr, refl, sym, ap, subst, arith, Option, Some, None, Bool, true, false}
use Rattle.std.specs.Prelude.{cond, min, nat_lt, nat_le, ◌==◌, ◌&&◌}
use Rattle.dc_base.specs.declared.names.Token.{Token}
use Rattle.cli_named.specs.declared.numbers.Numbers.{Numbers}
use Rattle.cli_named.specs.Rows.{table_in, row_in, token_at}
use Rattle.cli_named.specs.Numbers.{count_of, numbered, number_of, token_of, specs_from, members_from, sigs_from}

four : (b c d e : Bool) (x y z w : Option ℕ) (k : ℕ) → cond b x (cond c y (cond d z (cond e w None))) ≡ Some k
    → ((b ≡ true) × (x ≡ Some k)) ⊎ ((c ≡ true) × (y ≡ Some k)) ⊎ ((d ≡ true) × (z ≡ Some k)) ⊎ ((e ≡ true) × (w ≡ Some k))
four true c d e x y z w k is = inl (refl, is)
four false true d e x y z w k is = inr (inl (refl, is))
four false false true e x y z w k is = inr (inr (inl (refl, is)))
four false false false true x y z w k is = inr (inr (inr (refl, is)))
four false false false false x y z w k is = let none : None ≡ Some k = is in absurd cc

same : (a b : ℕ) → (a == b) ≡ true → a ≡ b
same a b is = grind (arith, rules)

is_in : (before rows row k : ℕ) → numbered before rows row ≡ Some k → (1 ≤ row) × (row ≤ rows) × (k ≡ before + (row - 1))
is_in before rows row k is = grind (arith, rules)

abbrev of_number : ℕ → Token
of_number x = record { 0 = x }

back_to : (t : Token) (table r : ℕ) → table_in t ≡ table → r ≡ row_in t → token_at table r ≡ t
back_to t table r is row =
    let whole : table * 2 ^ 24 + r ≡ t.0 = omega (arith, is, row) in
    ap of_number whole

in_refs : (n : Numbers) (k : ℕ) → k < specs_from n → token_of n k ≡ token_at 0x01 (k + 1)
in_refs n k below = grind (arith, rules)

in_specs : (n : Numbers) (k : ℕ) → specs_from n ≤ k → k < members_from n → token_of n k ≡ token_at 0x1B (k - specs_from n + 1)
in_specs n k from below = grind (arith, rules)

in_members : (n : Numbers) (k : ℕ) → members_from n ≤ k → k < sigs_from n → token_of n k ≡ token_at 0x0A (k - members_from n + 1)
in_members n k from below = grind (arith, rules)

in_sigs : (n : Numbers) (k : ℕ) → sigs_from n ≤ k → token_of n k ≡ token_at 0x11 (k - sigs_from n + 1)
in_sigs n k from = grind (arith, rules)

pub token_back : (n : Numbers) (t : Token) (k : ℕ) → number_of n t ≡ Some k → token_of n k ≡ t
token_back n t k is = elim (four (table_in t == 0x01) (table_in t == 0x1B) (table_in t == 0x0A) (table_in t == 0x11) _ _ _ _ k is) [
  | inl p ↦
      let at = is_in 0 n.type_refs (row_in t) k p.1 in
      let below : k < specs_from n = omega (arith, at.0, at.1, at.2) in
      let row : k + 1 ≡ row_in t = omega (arith, at.0, at.2) in
      in_refs n k below ∙ back_to t 0x01 (k + 1) (same _ _ p.0) row
  | inr (inl p) ↦
      let at = is_in (specs_from n) n.type_specs (row_in t) k p.1 in
      let from : specs_from n ≤ k = omega (arith, at.0, at.2) in
      let below : k < members_from n = omega (arith, at.0, at.1, at.2) in
      let row : k - specs_from n + 1 ≡ row_in t = omega (arith, at.0, at.2) in
      in_specs n k from below ∙ back_to t 0x1B (k - specs_from n + 1) (same _ _ p.0) row
  | inr (inr (inl p)) ↦
      let at = is_in (members_from n) n.member_refs (row_in t) k p.1 in
      let from : members_from n ≤ k = omega (arith, at.0, at.2) in
      let below : k < sigs_from n = omega (arith, at.0, at.1, at.2) in
      let row : k - members_from n + 1 ≡ row_in t = omega (arith, at.0, at.2) in
      in_members n k from below ∙ back_to t 0x0A (k - members_from n + 1) (same _ _ p.0) row
  | inr (inr (inr p)) ↦
      let at = is_in (sigs_from n) n.sigs (row_in t) k p.1 in
      let from : sigs_from n ≤ k = omega (arith, at.0, at.2) in
      let row : k - sigs_from n + 1 ≡ row_in t = omega (arith, at.0, at.2) in
      in_sigs n k from ∙ back_to t 0x11 (k - sigs_from n + 1) (same _ _ p.0) row
]

pub in_table_refs : (n : Numbers) (t : Token) → table_in t ≡ 0x01 → 1 ≤ row_in t → row_in t ≤ n.type_refs → number_of n t ≡ Some (0 + (row_in t - 1))
in_table_refs n t is low high = grind (arith, rules)

pub in_table_specs : (n : Numbers) (t : Token) → table_in t ≡ 0x1B → 1 ≤ row_in t → row_in t ≤ n.type_specs → number_of n t ≡ Some (specs_from n + (row_in t - 1))
in_table_specs n t is low high = grind (arith, rules)

pub in_table_members : (n : Numbers) (t : Token) → table_in t ≡ 0x0A → 1 ≤ row_in t → row_in t ≤ n.member_refs → number_of n t ≡ Some (members_from n + (row_in t - 1))
in_table_members n t is low high = grind (arith, rules)

pub in_table_sigs : (n : Numbers) (t : Token) → table_in t ≡ 0x11 → 1 ≤ row_in t → row_in t ≤ n.sigs → number_of n t ≡ Some (sigs_from n + (row_in t - 1))
in_table_sigs n t is low high = grind (arith, rules)

pub number_below : (n : Numbers) (t : Token) (k : ℕ) → number_of n t ≡ Some k → k < count_of n
number_below n t k is = elim (four (table_in t == 0x01) (table_in t == 0x1B) (table_in t == 0x0A) (table_in t == 0x11) _ _ _ _ k is) [
  | inl p ↦ let at = is_in 0 n.type_refs (row_in t) k p.1 in omega (arith, at.0, at.1, at.2)
  | inr (inl p) ↦ let at = is_in (specs_from n) n.type_specs (row_in t) k p.1 in omega (arith, at.0, at.1, at.2)
  | inr (inr (inl p)) ↦ let at = is_in (members_from n) n.member_refs (row_in t) k p.1 in omega (arith, at.0, at.1, at.2)
  | inr (inr (inr p)) ↦ let at = is_in (sigs_from n) n.sigs (row_in t) k p.1 in omega (arith, at.0, at.1, at.2)
]
