-- Names, one behind the other.
use Rattle.std.proofs.Common.{◌≡◌, ◌∙◌, ℕ, ◌+◌, List, [], ◌∷◌, ◌++◌, Option, Some, length, inl, inr, sym, ap, subst, arith, length-append}
use Rattle.std.specs.List.{slice_get}
use Rattle.std.proofs.lemmas.Option.{slice_get_within}
use Rattle.class_keys.proofs.Items.{pushed_item, one_item}
use Rattle.class_rows.specs.declared.row.TypeRow.{TypeRow}
use Rattle.cli_metadata.specs.Metadata.{Contents}
use Rattle.cli_scopes.specs.declared.name.TypeName.{TypeName}
use Rattle.cli_names.specs.Names.{IsReferenceName, IsOwnName}

-- the names so far
pub record AreFirst (types : List TypeRow) (names : List TypeName) (count : ℕ) : Type 0 where
  pub long : length names ≡ count
  pub each : (t : ℕ) (row : TypeRow) (name : TypeName) → slice_get types t ≡ Some row → slice_get names t ≡ Some name → IsReferenceName row name

pub one_more_reference : (types : List TypeRow) (names after : List TypeName) (count : ℕ) (row : TypeRow) (name : TypeName) → slice_get types count ≡ Some row → IsReferenceName row name → after ≡ names ++ (name ∷ []) → AreFirst types names count → AreFirst types after (count + 1)
one_more_reference types names after count row name stands is more so =
    let long = length-append names (name ∷ []) in
    record {
      long = ap (λ (xs : List TypeName). length xs) more ∙ omega (arith, long, so.long);
      each = λ t other found at there. elim (pushed_item names name t found (subst (λ (xs : List TypeName). slice_get xs t ≡ Some found) more there)) [
        | inl old ↦ so.each t other found at old
        | inr new ↦
            let same : t ≡ count = omega (arith, new.0, so.long) in
            let one : row ≡ other = one_item types t row other (subst (λ (n : ℕ). slice_get types n ≡ Some row) (sym same) stands) at in
            subst (λ (x : TypeName). IsReferenceName other x) (sym new.1) (subst (λ (r : TypeRow). IsReferenceName r name) one is)
      ];
    }

-- the names of the references, and of some own types behind them
pub record AreFirstOwn (types : List TypeRow) (m : Contents) (outers : List (Option ℕ)) (names : List TypeName) (count : ℕ) : Type 0 where
  pub long : length names ≡ length types + count
  pub of_references : (t : ℕ) (row : TypeRow) (name : TypeName) → slice_get types t ≡ Some row → slice_get names t ≡ Some name → IsReferenceName row name
  pub of_own : (k : ℕ) (name : TypeName) → slice_get names (length types + k) ≡ Some name → IsOwnName m outers (length types) k name

pub one_more_own : (types : List TypeRow) (m : Contents) (outers : List (Option ℕ)) (names after : List TypeName) (count : ℕ) (name : TypeName) → IsOwnName m outers (length types) count name → after ≡ names ++ (name ∷ []) → AreFirstOwn types m outers names count → AreFirstOwn types m outers after (count + 1)
one_more_own types m outers names after count name is more so =
    let long = length-append names (name ∷ []) in
    record {
      long = ap (λ (xs : List TypeName). length xs) more ∙ omega (arith, long, so.long);
      of_references = λ t row found at there. elim (pushed_item names name t found (subst (λ (xs : List TypeName). slice_get xs t ≡ Some found) more there)) [
        | inl old ↦ so.of_references t row found at old
        | inr new ↦ let lt = slice_get_within types t row at in absurd (omega (arith, lt, new.0, so.long))
      ];
      of_own = λ k found there. elim (pushed_item names name (length types + k) found (subst (λ (xs : List TypeName). slice_get xs (length types + k) ≡ Some found) more there)) [
        | inl old ↦ so.of_own k found old
        | inr new ↦
            let same : count ≡ k = omega (arith, new.0, so.long) in
            subst (λ (x : TypeName). IsOwnName m outers (length types) k x) (sym new.1) (subst (λ (n : ℕ). IsOwnName m outers (length types) n name) same is)
      ];
    }
