use Rattle.cli_refs.proofs.ByType.{none_asked}
use Rattle.cli_refs.proofs.asked.asked_of.Goals as goal

pub loop-q-init : goal.loop-q-init
loop-q-init c = none_asked c.args.sought.now c.args.count c.in_ok-nones.field-0.items c.new.result.items c.in_ok-nones.ensures c.new.ensures.items
