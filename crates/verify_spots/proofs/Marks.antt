-- Which instructions are aimed at.
use Rattle.std.proofs.Common.{◌≡◌, ◌⊎◌, inl, inr, ℕ, ◌+◌, ◌<◌, true, false, Bool, List, Some, length, get_or, below_more, sym, ap, ◌∙◌, subst, arith}
use Rattle.std.proofs.lemmas.Option.{slice_get-get_or}
use Rattle.std.specs.List.{Contains}
use Rattle.cil_rows.specs.declared.row.Row.{Row}
use Rattle.cil_rows.specs.Flow.{aims_of}
use Rattle.verify_rules.specs.declared.setting.Setting.{Setting}
use Rattle.verify_spots.specs.Spots.{IsAimed, IsRow}
use Rattle.verify_spots.proofs.There.{item_is}

-- what one more row marks
module _ (s : Setting) (n : ℕ) (item : Row) (lt : n < length s.rows.now) (here : item ≡ get_or s.rows.now n item) (aims : List ℕ) (same : aims ≡ aims_of item) (old new : List Bool) where
  pub row_some :
      ((i : ℕ) → get_or old i false ≡ true → IsAimed s i) → ((i : ℕ) → get_or new i false ≡ true → (get_or old i false ≡ true) ⊎ Contains aims i)
      → (i : ℕ) → get_or new i false ≡ true → IsAimed s i
  row_some was some i on =
      elim (some i on) [
        | inl before ↦ was i before
        | inr aim ↦ (n, item, slice_get-get_or s.rows.now n item lt ∙ ap Some (sym here), subst (λ (xs : List ℕ). Contains xs i) same aim)
      ]

  abbrev All : List Bool → ℕ → Type 0
  All marks k = (row : Row) → IsRow s k row → (i : ℕ) → i < length s.rows.now → Contains (aims_of row) i → get_or marks i false ≡ true

  pub row_all :
      ((k : ℕ) → k < n → (row : Row) → IsRow s k row → (i : ℕ) → i < length s.rows.now → Contains (aims_of row) i → get_or old i false ≡ true)
      → ((i : ℕ) → get_or old i false ≡ true → get_or new i false ≡ true) → length old ≡ length s.rows.now
      → ((i : ℕ) → i < length old → Contains aims i → get_or new i false ≡ true)
      → (k : ℕ) → k < n + 1 → (row : Row) → IsRow s k row → (i : ℕ) → i < length s.rows.now → Contains (aims_of row) i → get_or new i false ≡ true
  row_all was kept as_many all =
      below_more (All new) n (λ k below row is i within aim. kept i (was k below row is i within aim))
      (λ row is i within aim.
      all i (omega (arith, as_many, within))
      (subst (λ (xs : List ℕ). Contains xs i) (ap aims_of (item_is s.rows.now n item row here is) ∙ sym same) aim))
