-- A push declares one more variable; where nothing is pushed the code returns.
use Rattle.ilspy_body.proofs.FlatCode.{declares_more, counted_still}
use Rattle.ilspy_body.proofs.flat_form.flattened.Goals as goal

pub finished-requires : goal.finished-requires
finished-requires c = counted_still _ _ _ _ c.in_ok-returned.ensures c.loop-simple.invariant.counted

pub loop-simple-preserved : goal.loop-simple-preserved
loop-simple-preserved c =
    rw (c.in_ok-push.ensures.ok, c.in_ok-push-2.ensures.ok)
    (declares_more _ _ _ _ _ _ _ c.in-Some.value c.loop-simple.invariant c.loop-simple-test.true (rw c.in-Some.is at c.in_ok-value.ensures))
