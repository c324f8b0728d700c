use Rattle.cli_names.proofs.Lists.{one_more_own}
use Rattle.cli_names.proofs.names.type_names.Goals as goal

pub loop-k-preserved : goal.loop-k-preserved
loop-k-preserved c =
    one_more_own c.args.references.now c.args.metadata.now c.args.outers.now c.loop-k.names.items c.push.new.self.items c.loop-k.k c.own_name.result c.own_name.ensures c.in_ok-push.ensures.items c.loop-k.invariant
