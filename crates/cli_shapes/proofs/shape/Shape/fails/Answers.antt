use Rattle.std.proofs.Common.{sym, subst}
use Rattle.std.specs.Bool.{OnFalse}
use Rattle.cli_shapes.specs.declared.own.Own.{Own}
use Rattle.cli_shapes.specs.declared.shape.Shape.{Shape}
use Rattle.cli_shapes.specs.Types.{IsWithoutConstructor, IsOtherEnum}
use Rattle.cli_shapes.specs.Shapes.{FailsAt}
use Rattle.cli_shapes.proofs.shape.Shape.fails.Goals as goal

pub returns-in-NoConstructor-clause-no : goal.returns-in-NoConstructor-clause-no
returns-in-NoConstructor-clause-no c =
    let told : OnFalse c.is_without_constructor.result (IsWithoutConstructor c.args.rows.now c.args.n → ⊥) =
    subst (λ (s : Own). OnFalse c.is_without_constructor.result (IsWithoutConstructor s c.args.n → ⊥)) c.rows.view_is c.is_without_constructor.ensures.no in
    subst (λ (j : Shape). OnFalse c.is_without_constructor.result (FailsAt j c.args.rows.now c.args.n → ⊥)) (sym c.in-NoConstructor.is) told

pub returns-in-EnumShape-clause-no : goal.returns-in-EnumShape-clause-no
returns-in-EnumShape-clause-no c =
    let told : OnFalse c.is_other_enum.result (IsOtherEnum c.args.rows.now c.args.n → ⊥) =
    subst (λ (s : Own). OnFalse c.is_other_enum.result (IsOtherEnum s c.args.n → ⊥)) c.rows.view_is c.is_other_enum.ensures.no in
    subst (λ (j : Shape). OnFalse c.is_other_enum.result (FailsAt j c.args.rows.now c.args.n → ⊥)) (sym c.in-EnumShape.is) told
