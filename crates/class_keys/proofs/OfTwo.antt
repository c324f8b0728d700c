-- The least number of facts that say the same, and of one of two facts.
use Rattle.std.proofs.Common.{◌≡◌, ◌⊎◌, ℕ, ◌<◌, ◌≤◌, Option, Some, None, min, refl, sym, subst, inl, inr, arith}
use Rattle.std.proofs.lemmas.Bool.{cases_lt}
use Rattle.dc_causes.specs.First.{IsLeast}
use Rattle.class_keys.specs.Least.{IsLeastOf, IsLeastOff, lesser_of}

pub least_of_same : (P Q : ℕ → Type 0) (least : Option ℕ) → ((n : ℕ) → P n → Q n) → ((n : ℕ) → Q n → P n) → IsLeastOf P least → IsLeastOf Q least
least_of_same P Q None to from_ none = λ n q. none n (from_ n q)
least_of_same P Q (Some n) to from_ first = record { holds = to n first.holds; least = λ m lt q. first.least m lt (from_ m q) }

either_none : (P Q : ℕ → Type 0) (n : ℕ) → (P n → ⊥) → (Q n → ⊥) → P n ⊎ Q n → ⊥
either_none P Q n p q (inl h) = p h
either_none P Q n p q (inr h) = q h

least_of_two : (P Q : ℕ → Type 0) (m n : ℕ) → IsLeast P m → IsLeast Q n → IsLeast (λ k. P k ⊎ Q k) (min m n)
least_of_two P Q m n p q = elim (cases_lt n m) [
  | inl lt ↦
      let e : n ≡ min m n = omega (arith, lt) in
      subst (λ (k : ℕ). IsLeast (λ k. P k ⊎ Q k) k) e (record { holds = inr q.holds; least = λ k less. either_none P Q k (p.least k (omega (arith, less, lt))) (q.least k less) })
  | inr le ↦
      let e : m ≡ min m n = omega (arith, le) in
      subst (λ (k : ℕ). IsLeast (λ k. P k ⊎ Q k) k) e (record { holds = inl p.holds; least = λ k less. either_none P Q k (p.least k less) (q.least k (omega (arith, less, le))) })
]

-- the lesser of two least numbers is the least of which either fact holds
pub least_of_either : (P Q : ℕ → Type 0) (one other : Option ℕ) → IsLeastOf P one → IsLeastOf Q other → IsLeastOf (λ n. P n ⊎ Q n) (lesser_of one other)
least_of_either P Q None None p q = λ n. either_none P Q n (p n) (q n)
least_of_either P Q None (Some n) p q = record { holds = inr q.holds; least = λ m lt. either_none P Q m (p m) (q.least m lt) }
least_of_either P Q (Some n) None p q = record { holds = inl p.holds; least = λ m lt. either_none P Q m (p.least m lt) (q m) }
least_of_either P Q (Some m) (Some n) p q = least_of_two P Q m n p q

pub off_of_same : (P Q : ℕ → Type 0) (least : Option ℕ) → ((n : ℕ) → P n → Q n) → ((n : ℕ) → Q n → P n) → IsLeastOff P least → IsLeastOff Q least
off_of_same P Q None to from_ all = λ n. to n (all n)
off_of_same P Q (Some n) to from_ first = ((λ q. first.0 (from_ n q)), λ m lt. to m (first.1 m lt))

-- the lesser of two numbers of which two facts don't hold is the least of which not both do
pub off_of_both : (P Q : ℕ → Type 0) (one other : Option ℕ) → IsLeastOff P one → IsLeastOff Q other → IsLeastOff (λ n. P n × Q n) (lesser_of one other)
off_of_both P Q None None p q = λ n. (p n, q n)
off_of_both P Q None (Some n) p q = ((λ both. q.0 both.1), λ m lt. (p m, q.1 m lt))
off_of_both P Q (Some n) None p q = ((λ both. p.0 both.0), λ m lt. (p.1 m lt, q m))
off_of_both P Q (Some m) (Some n) p q = elim (cases_lt n m) [
  | inl lt ↦
      let e : n ≡ min m n = omega (arith, lt) in
      subst (λ (k : ℕ). IsLeastOff (λ i. P i × Q i) (Some k)) e ((λ both. q.0 both.1), λ i less. (p.1 i (omega (arith, less, lt)), q.1 i less))
  | inr le ↦
      let e : m ≡ min m n = omega (arith, le) in
      subst (λ (k : ℕ). IsLeastOff (λ i. P i × Q i) (Some k)) e ((λ both. p.0 both.0), λ i less. (p.1 i less, q.1 i (omega (arith, less, le))))
]
