use Rattle.std.proofs.Common.{arith, subst}
use Rattle.dc_base.specs.declared.ty.Ty.{Ty}
use Rattle.verify_rules.specs.Held.{element_of}
use Rattle.verify_rules.specs.Kinds.{Accesses, IsSo}
use Rattle.verify_kinds.proofs.Items.{all_more}
use Rattle.verify_kinds.proofs.array.all_accessed.Goals as goal

pub returns-clause-yes : goal.returns-clause-yes
returns-clause-yes c = λ array has. subst (λ (x : Ty). IsSo (Accesses c.args.setting.now c.args.access) (element_of x)) has.2 (c.loop-array.invariant has.0 array (omega (arith, has.1, c.loop-array.auto.array-index-end, c.loop-array-test.false)))

pub loop-array-preserved : goal.loop-array-preserved
loop-array-preserved c =
    all_more c.args.setting.now c.args.access c.args.set.now c.loop-array.array-index _ c.element_of.result (omega (arith, c.loop-array-test.true)) c.loop-array.invariant c.element_of.ensures c.if-not-is_accessed.ensures.yes
