-- The row counts, as they are read and as they stand.
use Rattle.std.proofs.Common.{◌≡◌, inl, inr, ℕ, zero, suc, ◌+◌, ◌*◌, ◌/◌, ◌%◌, ◌<◌, List, [], ◌∷◌, length, drop, get_or, Ok, refl, sym, ap, subst, ◌∙◌, arith}
use Rattle.byteorder.specs.Endian.{little_number}
use Rattle.cli_metadata.specs.declared.fault.MetaCause.TheVariants.{Truncated}
use Rattle.cli_metadata.specs.Reading.{◌>>=◌, number_at}
use Rattle.cli_metadata.specs.Layout.{count_at, counts_at}
use Rattle.cli_metadata.specs.Standing.{IsNumber, IsRowCount, bit, tables_below}
use Rattle.cli_metadata.proofs.Places.{ok_is, bind_ok}
use Rattle.cli_metadata.proofs.Steps.{number-goes, number-is}
use Rattle.cli_metadata.proofs.Bits.{parity, bit-first, bit-half, below-none, below-half}

-- one count, where the lowest bit says whether there is one
pub record Counts (bytes : List ℕ) (valid at : ℕ) (x : ℕ × ℕ) : Type 0 where
  pub there : valid % 2 ≡ 1 → IsNumber 4 bytes at x.0
  pub missing : valid % 2 ≡ 0 → x.0 ≡ 0
  pub end : x.1 ≡ at + 4 * (valid % 2)

pub count-stands : (valid : ℕ) (bytes : List ℕ) (at : ℕ) (x : ℕ × ℕ) → count_at valid bytes at ≡ Ok x → Counts bytes valid at x
count-stands valid bytes at x e = elim (parity valid) [
  | inl even ↦ (let none : Ok (0, at) ≡ Ok x = rw even at e in
      let made : Counts bytes valid at (0, at) = record { there = λ odd. absurd (omega arith); missing = λ w. refl; end = omega arith } in
      subst (λ (y : ℕ × ℕ). Counts bytes valid at y) (ok_is (0, at) x none) made)
  | inr odd ↦ (let one : (number_at Truncated 4 bytes at >>= λ n. Ok (n, at + 4)) ≡ Ok x = rw odd at e in
      let g = number-goes Truncated 4 bytes at (λ n. Ok (n, at + 4)) x one in
      let made : Counts bytes valid at (little_number 4 (drop at bytes), at + 4) = record { there = λ w. g.0; missing = λ even. absurd (omega arith); end = omega arith } in
      subst (λ (y : ℕ × ℕ). Counts bytes valid at y) (ok_is (little_number 4 (drop at bytes), at + 4) x g.1) made)
]

pub count-read : (valid : ℕ) (bytes : List ℕ) (at rows : ℕ) → Counts bytes valid at (rows, at + 4 * (valid % 2)) → count_at valid bytes at ≡ Ok (rows, at + 4 * (valid % 2))
count-read valid bytes at rows w = elim (parity valid) [
  | inl even ↦ (let none : rows ≡ 0 = w.missing even in
      let same : at ≡ at + 4 * (valid % 2) = omega arith in
      let read : count_at valid bytes at ≡ Ok (0, at) = rw even refl in
      read ∙ ap (λ (n : ℕ). Ok (n, at)) (sym none) ∙ ap (λ (n : ℕ). Ok (rows, n)) same)
  | inr odd ↦ (let one = number-is Truncated 4 bytes at rows (w.there odd) in
      let same : at + 4 ≡ at + 4 * (valid % 2) = omega arith in
      let read : count_at valid bytes at ≡ Ok (rows, at + 4) = rw (odd, one) refl in
      read ∙ ap (λ (n : ℕ). Ok (rows, n)) same)
]

-- a count seen from another place
moved : (bytes : List ℕ) (from to valid bits k j rows : ℕ) → bit valid k ≡ bit bits j → from + 4 * tables_below valid k ≡ to + 4 * tables_below bits j → IsRowCount bytes from valid k rows → IsRowCount bytes to bits j rows
moved bytes from to valid bits k j rows e same w = record {
  there = λ one. subst (λ (n : ℕ). IsNumber 4 bytes n rows) same (w.there (e ∙ one));
  missing = λ none. w.missing (e ∙ none);
}

-- the counts of so many tables
pub record CountsStand (n valid : ℕ) (bytes : List ℕ) (at : ℕ) (x : List ℕ × ℕ) : Type 0 where
  pub long : length x.0 ≡ n
  pub rows : (k : ℕ) → k < n → IsRowCount bytes at valid k (get_or x.0 k 0)
  pub end : x.1 ≡ at + 4 * tables_below valid n

rows-more : (n valid : ℕ) (bytes : List ℕ) (at : ℕ) (first : ℕ × ℕ) (others : List ℕ × ℕ) → Counts bytes valid at first → CountsStand n (valid / 2) bytes first.1 others
    → (k : ℕ) → k < suc n → IsRowCount bytes at valid k (get_or (first.0 ∷ others.0) k 0)
rows-more n valid bytes at first others c w zero lt =
    let none = below-none valid in
    let same : at ≡ at + 4 * tables_below valid 0 = omega arith in
    record {
      there = λ one. subst (λ (p : ℕ). IsNumber 4 bytes p first.0) same (c.there (sym (bit-first valid) ∙ one));
      missing = λ even. c.missing (sym (bit-first valid) ∙ even);
    }
rows-more n valid bytes at first others c w (suc k) lt =
    let end = c.end in
    let half = below-half valid k in
    let same : first.1 + 4 * tables_below (valid / 2) k ≡ at + 4 * tables_below valid (suc k) = omega arith in
    moved bytes first.1 at (valid / 2) valid k (suc k) (get_or others.0 k 0) (bit-half valid k) same (w.rows k (omega arith))

pub counts-stand : (n valid : ℕ) (bytes : List ℕ) (at : ℕ) (x : List ℕ × ℕ) → counts_at n valid bytes at ≡ Ok x → CountsStand n valid bytes at x
unfolding counts_at
counts-stand zero valid bytes at x e =
    let none = below-none valid in
    let made : CountsStand 0 valid bytes at ([], at) = record { long = refl; rows = λ k lt. absurd (omega arith); end = omega arith } in
    subst (λ (y : List ℕ × ℕ). CountsStand 0 valid bytes at y) (ok_is ([], at) x e) made
counts-stand (suc n) valid bytes at x e =
    let a = bind_ok (count_at valid bytes at) _ x e in
    let b = bind_ok (counts_at n (valid / 2) bytes a.0.1) _ x a.2 in
    let c = count-stands valid bytes at a.0 a.1 in
    let w = counts-stand n (valid / 2) bytes a.0.1 b.0 b.1 in
    let half = below-half valid n in
    let first = c.end in
    let last = w.end in
    let made : CountsStand (suc n) valid bytes at (a.0.0 ∷ b.0.0, b.0.1) = record {
      long = ap suc w.long;
      rows = rows-more n valid bytes at a.0 b.0 c w;
      end = omega arith;
    } in
    subst (λ (y : List ℕ × ℕ). CountsStand (suc n) valid bytes at y) (ok_is (a.0.0 ∷ b.0.0, b.0.1) x b.2) made

pub counts-read : (counts : List ℕ) (valid : ℕ) (bytes : List ℕ) (at : ℕ) → ((k : ℕ) → k < length counts → IsRowCount bytes at valid k (get_or counts k 0))
    → counts_at (length counts) valid bytes at ≡ Ok (counts, at + 4 * tables_below valid (length counts))
unfolding counts_at
counts-read [] valid bytes at rows =
    let none = below-none valid in
    let same : at ≡ at + 4 * tables_below valid 0 = omega arith in
    ap (λ (n : ℕ). Ok ([], n)) same
counts-read (c ∷ counts) valid bytes at rows =
    let none = below-none valid in
    let here : at + 4 * tables_below valid 0 ≡ at = omega arith in
    let first = rows 0 (omega arith) in
    let one : Counts bytes valid at (c, at + 4 * (valid % 2)) = record {
      there = λ odd. subst (λ (p : ℕ). IsNumber 4 bytes p c) here (first.there (bit-first valid ∙ odd));
      missing = λ even. first.missing (bit-first valid ∙ even);
      end = refl;
    } in
    let a = count-read valid bytes at c one in
    let b = counts-read counts (valid / 2) bytes (at + 4 * (valid % 2)) (λ k lt.
    let half = below-half valid k in
    let same : at + 4 * tables_below valid (suc k) ≡ at + 4 * (valid % 2) + 4 * tables_below (valid / 2) k = omega arith in
    moved bytes at (at + 4 * (valid % 2)) valid (valid / 2) (suc k) k (get_or counts k 0) (sym (bit-half valid k)) same (rows (suc k) (omega arith))) in
    let half = below-half valid (length counts) in
    let end : at + 4 * (valid % 2) + 4 * tables_below (valid / 2) (length counts) ≡ at + 4 * tables_below valid (suc (length counts)) = omega arith in
    let made : counts_at (length (c ∷ counts)) valid bytes at ≡ Ok (c ∷ counts, at + 4 * (valid % 2) + 4 * tables_below (valid / 2) (length counts)) = rw (a, b) refl in
    made ∙ ap (λ (n : ℕ). Ok (c ∷ counts, n)) end
