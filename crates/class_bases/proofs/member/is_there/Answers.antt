use Rattle.std.proofs.Common.{List, refl, subst}
use Rattle.class_rows.specs.declared.row.Param.{Param}
use Rattle.class_bases.specs.Fit.{ParamsAreThere}
use Rattle.class_bases.proofs.member.is_there.Goals as goal

pub returns-then-ty_is_there-clause-yes : goal.returns-then-ty_is_there-clause-yes
returns-then-ty_is_there-clause-yes c = λ t. record {
  result_there = c.if-ty_is_there.ensures.yes refl;
  params_there = rw c.items.ensures at (c.params_are_there.ensures.yes t);
}

pub returns-then-ty_is_there-clause-no : goal.returns-then-ty_is_there-clause-no
returns-then-ty_is_there-clause-no c = λ h. c.params_are_there.ensures.no (rw c.items.ensures h.params_there)
