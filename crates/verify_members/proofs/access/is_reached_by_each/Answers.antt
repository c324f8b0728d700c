use Rattle.std.proofs.Common.{Some, arith}
use Rattle.dc_base.specs.declared.ty.Ty.{Ty}
use Rattle.verify_rules.specs.Members.{MayBeNamed, through}
use Rattle.verify_members.proofs.Each.{each_more, each_of_all, not_each}
use Rattle.verify_members.proofs.access.is_reached_by_each.Goals as goal

pub returns-then-not-is_reached_through-clause-no : goal.returns-then-not-is_reached_through-clause-no
returns-then-not-is_reached_through-clause-no c =
    not_each (λ (ty : Ty). MayBeNamed c.args.setting.now c.args.member (Some (through c.args.setting.now ty))) c.args.set.now c.loop-ty.ty-index _ (omega (arith, c.loop-ty-test.true)) c.if-not-is_reached_through.ensures.no

pub loop-ty-preserved : goal.loop-ty-preserved
loop-ty-preserved c =
    each_more (λ (ty : Ty). MayBeNamed c.args.setting.now c.args.member (Some (through c.args.setting.now ty))) c.args.set.now c.loop-ty.ty-index _ (omega (arith, c.loop-ty-test.true)) c.if-not-is_reached_through.ensures.yes c.loop-ty.invariant

pub returns-clause-yes : goal.returns-clause-yes
returns-clause-yes c =
    each_of_all (λ (ty : Ty). MayBeNamed c.args.setting.now c.args.member (Some (through c.args.setting.now ty))) c.args.set.now c.loop-ty.ty-index (omega (arith, c.loop-ty-test.false)) c.loop-ty.invariant
