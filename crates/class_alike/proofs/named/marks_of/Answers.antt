use Rattle.std.proofs.Common.{List, take, sym, subst}
use Rattle.std.proofs.lemmas.List.{take_more}
use Rattle.dc_base.specs.declared.names.MemberId.{MemberId}
use Rattle.class_alike.specs.Named.{AreMarks}
use Rattle.class_alike.proofs.named.marks_of.Goals as goal

pub loop-pair-preserved : goal.loop-pair-preserved
loop-pair-preserved c =
    subst (λ (seen : List (MemberId × MemberId)). AreMarks c.args.types.now c.args.members.now seen c.marked-marks.result.items)
    (sym (take_more c.args.explicit.now c.loop-pair.pair-index _ c.loop-pair-test.true))
    (c.marked-marks.ensures (take c.loop-pair.pair-index c.args.explicit.now) c.loop-pair.invariant)
