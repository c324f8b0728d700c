use Rattle.cli_named.proofs.Named.{one_more}
use Rattle.cli_named.proofs.lists.named_rows.Goals as goal

pub loop-k-preserved : goal.loop-k-preserved
loop-k-preserved c = one_more c.args.metadata.now c.loop-k.lists.items c.push.new.self.items c.loop-k.k _ c.in_ok-list.ensures c.in_ok-push.ensures.items c.loop-k.invariant
