-- Which field fails, and which is the first.
use Rattle.std.proofs.Common.{◌≡◌, ◌∙◌, ℕ, zero, suc, ◌+◌, ◌-◌, ◌<◌, ◌≤◌, Bool, true, false, not, Some, Result, Ok, Err, IfOk, List, [], ◌∷◌, length, refl, sym, subst, inl, inr, arith}
use Rattle.std.specs.Bool.{OnTrue, OnFalse}
use Rattle.std.specs.List.{slice_get, slice_index_or}
use Rattle.std.proofs.lemmas.Bool.{cases_lt}
use Rattle.dc_causes.specs.First.{IsLeast}
use Rattle.cli_metadata.specs.declared.tables.Table.TheVariants as tables
use Rattle.cli_metadata.specs.Metadata.{Contents, rows_of}
use Rattle.cli_literals.specs.declared.fields.Fields.{Fields}
use Rattle.cli_literals.specs.Fails.{HasFloat, IsLiteral, HasOneFit, IsBad}
use Rattle.cli_literals.specs.Marks.{AreFloats}

pub item : {X : Type 0} (xs : List X) (n : ℕ) (d : X) → n < length xs → slice_get xs n ≡ Some (slice_index_or xs n d)
item [] n d lt = absurd (omega arith)
item (x ∷ xs) zero d lt = refl
item (x ∷ xs) (suc n) d lt = item xs n d (omega arith)

pub on_true : (P : Type 0) (b : Bool) → OnTrue b P → b ≡ true → P
on_true P true so is = so
on_true P false so is = let both : false ≡ true = is in absurd cc

pub on_false : (P : Type 0) (b : Bool) → OnFalse b P → b ≡ false → P
on_false P true so is = let both : true ≡ false = is in absurd cc
on_false P false so is = so

pub on_yes : {E : Type 0} (P Q : Type 0) (r : Result Bool E) → (P → Q) → IfOk r (λ b. OnTrue b P) → IfOk r (λ b. OnTrue b Q)
on_yes P Q (Ok true) f h = f h
on_yes P Q (Ok false) f h = tt
on_yes P Q (Err e) f h = tt

pub on_no : {E : Type 0} (P Q : Type 0) (r : Result Bool E) → (P → Q) → IfOk r (λ b. OnFalse b P) → IfOk r (λ b. OnFalse b Q)
on_no P Q (Ok true) f h = tt
on_no P Q (Ok false) f h = f h
on_no P Q (Err e) f h = tt

module _ (m : Contents) (s : Fields) (k : ℕ) (within : k < rows_of m tables.Field) (floats : List Bool) (are : AreFloats m floats) (mark : Bool) (at : slice_get floats k ≡ Some mark) where
  pub float_bad : mark ≡ true → IsBad m s (k + 1)
  float_bad on = record { low = omega arith; high = omega (arith, within); fails = inl ((are.each k mark at).yes_ on) }

  no_float : mark ≡ false → HasFloat m (k + 1) → ⊥
  no_float off has =
      let own = has.1 in
      let both : true ≡ false = sym ((are.each k mark at).all_ has.0 own.high own has.2) ∙ off in
      absurd cc

  pub not_bad : mark ≡ false → (IsLiteral m (k + 1) → (HasOneFit m s (k + 1) → ⊥) → ⊥) → IsBad m s (k + 1) → ⊥
  not_bad off right bad = elim bad.fails as (λ _. ⊥) [
    | inl float ↦ no_float off float
    | inr literal ↦ right literal.0 literal.1
  ]

  pub fit_not_bad : mark ≡ false → (fit : Bool) → OnTrue fit (HasOneFit m s (k + 1)) → OnFalse (not fit) (IsBad m s (k + 1) → ⊥)
  fit_not_bad off true so = not_bad off (λ _ none. none so)
  fit_not_bad off false so = tt

module _ (m : Contents) (s : Fields) (k : ℕ) (before : (j : ℕ) → j < k → IsBad m s (j + 1) → ⊥) where
  up_to : (f : ℕ) → f ≤ k → IsBad m s f → ⊥
  up_to f le bad =
      let low = bad.low in
      let same : f ≡ f - 1 + 1 = omega (arith, low) in
      before (f - 1) (omega (arith, low, le)) (subst (λ (n : ℕ). IsBad m s n) same bad)

  pub first : IsBad m s (k + 1) → IsLeast (IsBad m s) (k + 1)
  first bad = record { holds = bad; least = λ f lt. up_to f (omega (arith, lt)) }

  pub none : rows_of m tables.Field ≤ k → (f : ℕ) → IsBad m s f → ⊥
  none all f bad = let high = bad.high in up_to f (omega (arith, high, all)) bad

  pub passed : (IsBad m s (k + 1) → ⊥) → (j : ℕ) → j < k + 1 → IsBad m s (j + 1) → ⊥
  passed off j lt bad = elim (cases_lt j k) as (λ _. ⊥) [
    | inl less ↦ before j less bad
    | inr le ↦
        let same : j ≡ k = omega (arith, lt, le) in
        off (subst (λ (n : ℕ). IsBad m s (n + 1)) same bad)
  ]
