use Rattle.std.proofs.Common.{refl, arith}
use Rattle.std.proofs.lemmas.Bool.{false≢true}
use Rattle.std.proofs.lemmas.Option.{slice_get-get_or}
use Rattle.class_rows.specs.declared.row.Param.{Param}
use Rattle.class_bases.specs.Fit.{TyIsThere}
use Rattle.class_keys.proofs.Items.{taken_more, taken_all}
use Rattle.class_bases.proofs.member.params_are_there.Goals as goal

pub returns-then-not-ty_is_there-clause-no : goal.returns-then-not-ty_is_there-clause-no
returns-then-not-ty_is_there-clause-no c = λ all. c.if-not-ty_is_there.ensures.no (all c.loop-param.param-index _ (slice_get-get_or c.args.params.now c.loop-param.param-index _ c.loop-param-test.true))

pub loop-param-preserved : goal.loop-param-preserved
loop-param-preserved c =
    taken_more (λ (p : Param). TyIsThere c.args.types.now p.ty) c.args.params.now c.loop-param.param-index _ c.loop-param-test.true c.loop-param.invariant (c.if-not-ty_is_there.ensures.yes refl)

pub returns-clause-yes : goal.returns-clause-yes
returns-clause-yes c = λ t. taken_all (λ (p : Param). TyIsThere c.args.types.now p.ty) c.args.params.now c.loop-param.param-index c.loop-param-test.false c.loop-param.invariant
