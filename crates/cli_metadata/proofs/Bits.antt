-- The bits of Valid.
use Rattle.std.proofs.Common.{◌≡◌, ◌≢◌, ◌⊎◌, inl, inr, ◌&&◌, ◌||◌, ℕ, zero, suc, ◌+◌, ◌/◌, ◌%◌, ◌≤◌, List, [], ◌∷◌, get_or, Bool, true, false, refl, sym, ap, ◌∙◌, arith}
use Rattle.std.specs.Prelude.{◌==◌, ◌^◌}
use Rattle.std.proofs.lemmas.Bool.{eqb-true}
use Rattle.std.proofs.lemmas.Bool.Decides.{eqb_tells}
use Rattle.std.proofs.lemmas.Nat.{shr-shr, shr_le}
use Rattle.std.proofs.Math.Nat.{div-one}
use Rattle.cli_metadata.specs.declared.tables.Column.{Column}
use Rattle.cli_metadata.specs.Standing.{is_table}
use Rattle.cli_metadata.specs.Layout.{are_tables}
use Rattle.cli_metadata.specs.Standing.{bit, tables_below}

pub parity : (n : ℕ) → (n % 2 ≡ 0) ⊎ (n % 2 ≡ 1)
parity n = elim (eqb_tells (n % 2) 0) [
  | inl w ↦ inl w.1
  | inr w ↦ inr (let ne : n % 2 ≢ 0 = w.1 in omega arith)
]

pub bit-first : (valid : ℕ) → bit valid 0 ≡ valid % 2
bit-first valid = ap (λ (n : ℕ). n % 2) (div-one valid)

pub bit-half : (valid k : ℕ) → bit (valid / 2) k ≡ bit valid (suc k)
bit-half valid k =
    let next : 1 + k ≡ suc k = omega arith in
    ap (λ (n : ℕ). n % 2) (shr-shr valid 1 k ∙ ap (λ (i : ℕ). valid / 2 ^ i) next)

pub below-none : (valid : ℕ) → tables_below valid 0 ≡ 0
unfolding tables_below
below-none valid = refl

pub below-half : (valid k : ℕ) → tables_below valid (suc k) ≡ valid % 2 + tables_below (valid / 2) k
unfolding tables_below
below-half valid zero =
    let first = bit-first valid in
    omega arith
below-half valid (suc k) =
    let rest = below-half valid k in
    let half = bit-half valid k in
    omega arith

-- ---- each bit is that of a table

and-both : (a b : Bool) → (a && b) ≡ true → (a ≡ true) × (b ≡ true)
and-both true b e = (refl, e)
and-both false b e = absurd cc

both-and : (a b : Bool) → a ≡ true → b ≡ true → (a && b) ≡ true
both-and a b e f = rw (e, f) refl

odd-goes : (n : ℕ) (b : Bool) → n ≡ 1 → (n == 0 || b) ≡ true → b ≡ true
odd-goes n b one e = rw one at e

no-bits : (fuel valid : ℕ) → valid ≤ fuel → ((k : ℕ) → bit valid k ≢ 1) → valid ≡ 0
no-bits zero valid le none = omega arith
no-bits (suc fuel) valid le none =
    let first = bit-first valid in
    let even : valid % 2 ≢ 1 = λ one. none 0 (first ∙ one) in
    let half = no-bits fuel (valid / 2) (omega arith) (λ k one. none (suc k) (sym (bit-half valid k) ∙ one)) in
    omega arith

pub known-stands : (tables : List (List Column)) (valid : ℕ) → are_tables valid tables ≡ true → (k : ℕ) → bit valid k ≡ 1 → is_table (get_or tables k []) ≡ true
known-stands [] valid e k one =
    let none : valid ≡ 0 = eqb-true valid 0 e in
    let small = shr_le valid k in
    absurd (omega arith)
known-stands (t ∷ tables) valid e zero one =
    let both = and-both (valid % 2 == 0 || is_table t) (are_tables (valid / 2) tables) e in
    odd-goes (valid % 2) (is_table t) (sym (bit-first valid) ∙ one) both.0
known-stands (t ∷ tables) valid e (suc k) one =
    let both = and-both (valid % 2 == 0 || is_table t) (are_tables (valid / 2) tables) e in
    known-stands tables (valid / 2) both.1 k (bit-half valid k ∙ one)

pub known-read : (tables : List (List Column)) (valid : ℕ) → ((k : ℕ) → bit valid k ≡ 1 → is_table (get_or tables k []) ≡ true) → are_tables valid tables ≡ true
known-read [] valid known =
    let none : valid ≡ 0 = no-bits valid valid (omega arith) (λ k one. let t = known k one in absurd cc) in
    rw none refl
known-read (t ∷ tables) valid known =
    let rest = known-read tables (valid / 2) (λ k one. known (suc k) (sym (bit-half valid k) ∙ one)) in
    let first : (valid % 2 == 0 || is_table t) ≡ true = elim (parity valid) [
      | inl even ↦ rw even refl
      | inr odd ↦ (let its : is_table t ≡ true = known 0 (bit-first valid ∙ odd) in rw (odd, its) refl)
    ] in
    both-and (valid % 2 == 0 || is_table t) (are_tables (valid / 2) tables) first rest
