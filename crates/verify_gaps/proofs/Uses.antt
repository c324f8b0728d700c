-- What is asked of a use, but of a copy.
use Rattle.std.proofs.Common.{◌≡◌, ℕ, ◌<◌, Bool, length, refl}
use Rattle.std.specs.Bool.{OnTrue, OnFalse}
use Rattle.cil_rows.specs.declared.row.Row.{Row}
use Rattle.cil_rows.specs.declared.row.Row.TheVariants.{Dup}
use Rattle.verify_rules.specs.declared.setting.Setting.{Setting}
use Rattle.verify_rules.specs.Puts.{arguments}
use Rattle.verify_rules.specs.Gap.{MayUse, IsOfReferenceElement}

module _ (s : Setting) (depth k : ℕ) (b : Bool) where
  pub used_yes : (row : Row) → (row ≡ Dup → ⊥) → OnTrue b (IsOfReferenceElement s k → depth < length (arguments s row)) → OnTrue b (MayUse s row depth k)
  used_yes Dup other may = absurd (other refl)
  used_yes _ other may = may

  pub used_no : (row : Row) → (row ≡ Dup → ⊥) → OnFalse b ((IsOfReferenceElement s k → depth < length (arguments s row)) → ⊥) → OnFalse b (MayUse s row depth k → ⊥)
  used_no Dup other may = absurd (other refl)
  used_no _ other may = may
