-- Tokens that rise, one after another.
use Rattle.std.proofs.Common.{◌≡◌, ◌∙◌, ℕ, ◌+◌, ◌<◌, ◌≤◌, List, length, Some, sym, ap, subst, inl, inr, arith}
use Rattle.std.specs.List.{slice_get}
use Rattle.std.proofs.lemmas.Bool.{cases_lt}
use Rattle.std.proofs.lemmas.Option.{slice_get_within}
use Rattle.cli_shapes.specs.declared.own.Told.{Told}
use Rattle.cli_shapes.specs.Own.{AreRising}

-- the first so many rise, and all of them are below the bound
pub record AreRisingTo (told : List Told) (count bound : ℕ) : Type 0 where
  pub rise : (i j : ℕ) (a b : Told) → i < j → j < count → slice_get told i ≡ Some a → slice_get told j ≡ Some b → a.token.0 < b.token.0
  pub below : (i : ℕ) (a : Told) → i < count → slice_get told i ≡ Some a → a.token.0 < bound

one_item : (told : List Told) (k : ℕ) (a b : Told) → slice_get told k ≡ Some a → slice_get told k ≡ Some b → a.token.0 ≡ b.token.0
one_item told k a b x y =
    let both : Some a ≡ Some b = sym x ∙ y in
    let same : a ≡ b = cc in
    ap (λ (t : Told). t.token.0) same

pub begin : (told : List Told) → AreRisingTo told 0 0
begin told = record { rise = λ i j a b lt up x y. absurd (omega (arith, up)); below = λ i a up x. absurd (omega (arith, up)) }

pub more : (told : List Told) (k bound : ℕ) (t : Told) → slice_get told k ≡ Some t → bound ≤ t.token.0 → AreRisingTo told k bound → AreRisingTo told (k + 1) (t.token.0 + 1)
more told k bound t stands le so_far = record {
  rise = λ i j a b lt up x y. elim (cases_lt j k) as (λ _. a.token.0 < b.token.0) [
    | inl before ↦ so_far.rise i j a b lt before x y
    | inr past ↦
        let same : j ≡ k = omega (arith, up, past) in
        let last = one_item told k b t (subst (λ (n : ℕ). slice_get told n ≡ Some b) same y) stands in
        let low = so_far.below i a (omega (arith, lt, same)) x in
        omega (arith, low, last, le)
  ];
  below = λ i a up x. elim (cases_lt i k) as (λ _. a.token.0 < t.token.0 + 1) [
    | inl before ↦ (let low = so_far.below i a before x in omega (arith, low, le))
    | inr past ↦
        let same : i ≡ k = omega (arith, up, past) in
        let last = one_item told k a t (subst (λ (n : ℕ). slice_get told n ≡ Some a) same x) stands in
        omega (arith, last)
  ];
}

pub all_rise : (told : List Told) (count bound : ℕ) → length told ≤ count → AreRisingTo told count bound → AreRising told
all_rise told count bound le so_far = λ i j a b lt x y.
    let there = slice_get_within told j b y in
    so_far.rise i j a b lt (omega (arith, there, le)) x y
