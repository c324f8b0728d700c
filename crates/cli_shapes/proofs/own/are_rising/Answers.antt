use Rattle.cli_shapes.proofs.Rising.{begin}
use Rattle.cli_shapes.proofs.own.are_rising.Goals as goal

pub loop-k-init : goal.loop-k-init
loop-k-init c = begin c.args.told.now
