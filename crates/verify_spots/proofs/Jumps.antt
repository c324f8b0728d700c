-- Rows that don't leave regions lead where their aims are.
use Rattle.std.proofs.Common.{◌≡◌, ℕ, Bool, refl}
use Rattle.std.specs.Bool.{OnTrue, OnFalse}
use Rattle.std.specs.List.{Contains}
use Rattle.cil_body.specs.declared.body.Body.{Body}
use Rattle.cil_rows.specs.declared.row.Row.{Row}
use Rattle.cil_rows.specs.declared.row.Row.TheVariants.{Return, Leave, EndFinally}
use Rattle.cil_rows.specs.Flow.{aims_of}
use Rattle.verify_spots.specs.Spots.{HasRegion, Crosses, JumpsWrongly}

module _ (body : Body) (i : ℕ) (b : Bool) where
  pub leads_yes : (row : Row) → (row ≡ Return → ⊥) → ((to : ℕ) → row ≡ Leave to → ⊥) → (row ≡ EndFinally → ⊥) → OnTrue b ((j : ℕ) × Contains (aims_of row) j × HasRegion body (Crosses body i j)) → OnTrue b (JumpsWrongly body i row)
  leads_yes Return nr nl ne h = absurd (nr refl)
  leads_yes (Leave to) nr nl ne h = absurd (nl to refl)
  leads_yes EndFinally nr nl ne h = absurd (ne refl)
  leads_yes _ nr nl ne h = h

  pub leads_no : (row : Row) → (row ≡ Return → ⊥) → ((to : ℕ) → row ≡ Leave to → ⊥) → (row ≡ EndFinally → ⊥) → OnFalse b ((j : ℕ) × Contains (aims_of row) j × HasRegion body (Crosses body i j) → ⊥) → OnFalse b (JumpsWrongly body i row → ⊥)
  leads_no Return nr nl ne h = absurd (nr refl)
  leads_no (Leave to) nr nl ne h = absurd (nl to refl)
  leads_no EndFinally nr nl ne h = absurd (ne refl)
  leads_no _ nr nl ne h = h
