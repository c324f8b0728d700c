-- Of the row of an instruction a fact holds, where it has one.
use Rattle.std.proofs.Common.{◌≡◌, ◌⊎◌, ℕ, ◌+◌, Bool, true, false, Option, Some, None, List, slice_get, get_or, refl, sym, ap, ◌∙◌, subst}
use Rattle.std.proofs.lemmas.Option.{get_or_from_slice_get}
use Rattle.std.specs.Bool.{OnTrue, OnFalse}
use Rattle.cil_body.specs.declared.body.Body.{Body}
use Rattle.cil_rows.specs.declared.row.Row.{Row}
use Rattle.cil_rows.specs.Flow.{goes_on}
use Rattle.verify_rules.specs.declared.setting.Setting.{Setting}
use Rattle.verify_rules.specs.Kinds.{IsSo}
use Rattle.verify_spots.specs.Spots.{HasRegion, Crosses, FallsOff}

-- two values that are there are one
value : {A : Type 0} → Option A → A → A
value (Some a) d = a
value None d = d

pub some_same : {A : Type 0} (a b : A) → Some a ≡ Some b → a ≡ b
unfolding value
some_same {A} a b e = ap (λ (o : Option A). value o a) e

-- the row of an instruction is what stands at its number
pub item_is : (rows : List Row) (n : ℕ) (item row : Row) → item ≡ get_or rows n item → slice_get rows n ≡ Some row → row ≡ item
item_is rows n item row here is = sym (get_or_from_slice_get rows n row item is) ∙ sym here

record IsThere (P : Row → Type 0) (o : Option Row) : Type 0 where
  row : Row
  is : o ≡ Some row
  so : P row

there : (P : Row → Type 0) (o : Option Row) → IsSo P o → IsThere P o
there P None so = absurd so
there P (Some row) so = record { row = row; is = refl; so = so }

module _ (P : Row → Type 0) (o : Option Row) where
  pub there_yes : (b : Bool) → OnTrue b (IsSo P o) → OnTrue b ((row : Row) × (o ≡ Some row) × P row)
  there_yes true so = let t = there P o so in (t.row, t.is, t.so)
  there_yes false so = tt

  pub there_no : (b : Bool) → OnFalse b (IsSo P o → ⊥) → OnFalse b ((row : Row) × (o ≡ Some row) × P row → ⊥)
  there_no true none = tt
  there_no false none = λ f. none (subst (λ (o : Option Row). IsSo P o) (sym f.1) f.2)

module _ (s : Setting) (body : Body) (i : ℕ) where
  abbrev Falls : Row → Type 0
  Falls row = (goes_on row ≡ true) × ((slice_get s.rows.now (i + 1) ≡ None) ⊎ HasRegion body (Crosses body i (i + 1)))

  pub falls : (b : Bool) → OnTrue b (IsSo (λ row. (goes_on row ≡ true) × ((slice_get s.rows.now (i + 1) ≡ None) ⊎ HasRegion body (Crosses body i (i + 1)))) (slice_get s.rows.now i)) → OnTrue b (FallsOff s body i)
  falls true so = let t = there Falls (slice_get s.rows.now i) so in (t.row, t.is, t.so.0, t.so.1)
  falls false so = tt

  pub falls_not : (b : Bool) → OnFalse b (IsSo (λ row. (goes_on row ≡ true) × ((slice_get s.rows.now (i + 1) ≡ None) ⊎ HasRegion body (Crosses body i (i + 1)))) (slice_get s.rows.now i) → ⊥) → OnFalse b (FallsOff s body i → ⊥)
  falls_not true none = tt
  falls_not false none = λ f. none (subst (λ (o : Option Row). IsSo Falls o) (sym f.1) (f.2, f.3))
