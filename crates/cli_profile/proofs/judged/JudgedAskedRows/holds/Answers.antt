use Rattle.std.proofs.Common.{◌+◌, ◌<◌, subst, arith}
use Rattle.std.proofs.lemmas.Bool.{ltb-false}
use Rattle.cli_conditions.specs.declared.condition.Condition.TheVariants as conditions
use Rattle.cli_metadata.specs.declared.tables.Table.TheVariants as tables
use Rattle.cli_profile.specs.declared.judged.Judged.{Judged}
use Rattle.cli_profile.specs.Methods.{IsForeign}
use Rattle.cli_profile.specs.Rows.{IsModuleMember, IsOtherSpec}
use Rattle.cli_profile.specs.Judged.{asked, FailsNone}
use Rattle.cli_profile.proofs.Answered.{on_false, on_not}
use Rattle.cli_profile.proofs.Judging.{barred, unsifted, no_assembly, other_assembly}
use Rattle.cli_profile.proofs.judged.JudgedAskedRows.holds.Goals as goal

pub returns-in-Field-clause-no : goal.returns-in-Field-clause-no
returns-in-Field-clause-no c =
    on_not (IsModuleMember c.args.rows.now tables.Field (c.args.row + 1)) (FailsNone c.args.self c.args.rows.now c.args.row) _ c.is_module_field.ensures.yes
    (λ member none. subst (λ (j : Judged). FailsNone j c.args.rows.now c.args.row) c.in-Field.is none conditions.ModuleMember member)

pub returns-then-not-is_foreign-clause-no : goal.returns-then-not-is_foreign-clause-no
returns-then-not-is_foreign-clause-no c =
    on_not (IsModuleMember c.args.rows.now tables.MethodDef (c.args.row + 1)) (FailsNone c.args.self c.args.rows.now c.args.row) _ c.is_module_method.ensures.yes
    (λ member none. subst (λ (j : Judged). FailsNone j c.args.rows.now c.args.row) c.in-MethodDef.is none conditions.ModuleMember member)

pub returns-else-not-is_foreign-clause-no : goal.returns-else-not-is_foreign-clause-no
returns-else-not-is_foreign-clause-no c =
    on_not (IsForeign c.args.rows.now.metadata (c.args.row + 1)) (FailsNone c.args.self c.args.rows.now c.args.row) _ c.is_foreign.ensures.yes
    (λ foreign none. subst (λ (j : Judged). FailsNone j c.args.rows.now c.args.row) c.in-MethodDef.is none conditions.Native foreign)

pub returns-in-TypeSpec-clause-no : goal.returns-in-TypeSpec-clause-no
returns-in-TypeSpec-clause-no c =
    on_not (IsOtherSpec c.args.rows.now (c.args.row + 1)) (FailsNone c.args.self c.args.rows.now c.args.row) _ c.is_other_spec.ensures.yes
    (λ other none. subst (λ (j : Judged). FailsNone j c.args.rows.now c.args.row) c.in-TypeSpec.is none conditions.TypeSpec other)

pub returns-then-row-eq0-clause-no : goal.returns-then-row-eq0-clause-no
returns-then-row-eq0-clause-no c =
    on_false (FailsNone c.args.self c.args.rows.now c.args.row) _ (λ e none. no_assembly c.args.rows.now c.args.row (omega (arith, ltb-false _ _ e, c.of_table.ensures)) c.if-row-eq0.true
    (subst (λ (j : Judged). FailsNone j c.args.rows.now c.args.row) c.in-Assembly.is none))

pub returns-else-row-eq0-clause-no : goal.returns-else-row-eq0-clause-no
returns-else-row-eq0-clause-no c =
    on_false (FailsNone c.args.self c.args.rows.now c.args.row) _ (λ e none. other_assembly c.args.rows.now c.args.row c.if-row-eq0.false
    (subst (λ (j : Judged). c.args.row < asked j c.args.rows.now) c.in-Assembly.is c.requires)
    (subst (λ (j : Judged). FailsNone j c.args.rows.now c.args.row) c.in-Assembly.is none))

pub returns-in_default : goal.returns-in_default
returns-in_default c = record {
  yes = tt;
  no = barred c.args.self c.args.rows.now c.args.row (unsifted c.args.self c.in_default.not-Field c.in_default.not-MethodDef c.in_default.not-TypeSpec c.in_default.not-Assembly) c.requires;
}
