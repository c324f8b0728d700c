use Rattle.class_implemented.proofs.ByType.{none_by}
use Rattle.class_implemented.proofs.explicit.by_type.Goals as goal

pub loop-k-init : goal.loop-k-init
loop-k-init c = none_by c.args.members.now c.args.explicit.now c.args.count c.in_ok-nones.field-0.items c.new.result.items c.in_ok-nones.ensures c.new.ensures.items
