-- A method of a class that pushes its receiver.
use Rattle.std.proofs.Common.{◌≡◌, false, Option, Some, None, refl, sym, subst}
use Rattle.class_rows.specs.declared.row.MemberRow.{MemberRow}
use Rattle.class_rows.specs.declared.row.Kind.TheVariants.{Class}
use Rattle.cil_rows.specs.declared.row.Row.TheVariants.{LoadArgument}
use Rattle.verify_rules.specs.declared.setting.Setting.{Setting}
use Rattle.verify_rules.specs.declared.setting.Spot.{Spot}
use Rattle.verify_rules.specs.Look.{method_row}
use Rattle.verify_rules.specs.Puts.{owner_kind}
use Rattle.verify_rules.specs.Kinds.{IsBehind, IsSo}
use Rattle.verify_rules.specs.Gap.{IsOfThis}
use Rattle.verify_gaps.specs.Parts.{IsOfClass}

record IsMethod (s : Setting) (o : Option MemberRow) : Type 0 where
  method : MemberRow
  is : o ≡ Some method
  of_class : IsOfClass s method

method_of : (s : Setting) (o : Option MemberRow) → IsSo (IsOfClass s) o → IsMethod s o
method_of s None so = absurd so
method_of s (Some row) so = record { method = row; is = refl; of_class = so }

pub to_this : (s : Setting) (p : Spot) → p.is_aim ≡ false → p.begins_region ≡ false → IsBehind s p (LoadArgument 0) → IsSo (IsOfClass s) (method_row s) → IsOfThis s p
to_this s p no_aim within behind so =
    let m = method_of s (method_row s) so in
    record { behind = behind; method = m.method; is = m.is; instance = m.of_class.0; of_class = m.of_class.1; no_aim = no_aim; within = within }

pub not_behind : (s : Setting) (p : Spot) → IsOfThis s p → IsBehind s p (LoadArgument 0)
not_behind s p h = h.behind

pub not_in_class : (s : Setting) (p : Spot) → IsOfThis s p → IsSo (IsOfClass s) (method_row s)
not_in_class s p h = subst (λ (o : Option MemberRow). IsSo (IsOfClass s) o) (sym h.is) (h.instance, h.of_class)
