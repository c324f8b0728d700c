use Rattle.std.proofs.Common.{refl}
use Rattle.class_rows.specs.declared.row.Param.{Param}
use Rattle.class_members.proofs.Alike.{alike_more, all_alike, alike_at}
use Rattle.class_members.proofs.pair.same_types.Goals as goal

pub loop-index-preserved : goal.loop-index-preserved
loop-index-preserved c = alike_more (λ (p : Param). p.ty) c.args.a.now c.args.b.now c.loop-index.index _ _ c.loop-index.invariant (c.if-not-same_ty.ensures.yes refl)

pub returns-then-not-same_ty-clause-no : goal.returns-then-not-same_ty-clause-no
returns-then-not-same_ty-clause-no c = λ h. c.if-not-same_ty.ensures.no (alike_at (λ (p : Param). p.ty) c.args.a.now c.args.b.now c.loop-index.index _ _ h c.loop-index-test.true c.if-a-b.false)

pub returns-clause-yes : goal.returns-clause-yes
returns-clause-yes c = λ t. all_alike (λ (p : Param). p.ty) c.args.a.now c.args.b.now c.loop-index.index c.if-a-b.false c.loop-index-test.false c.loop-index.invariant
