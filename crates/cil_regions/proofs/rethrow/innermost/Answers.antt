use Rattle.std.proofs.Common.{sym, subst}
use Rattle.cil_regions.specs.Caught.{IsInnermost}
use Rattle.cil_regions.proofs.Handling.{none_handles}
use Rattle.cil_regions.proofs.rethrow.innermost.Goals as goal

pub returns-in_err-at : goal.returns-in_err-at
returns-in_err-at c =
    let nodes = c.args.nodes.now in
    subst (IsInnermost nodes c.args.place) (sym c.from_residual-in_err-at.ensures)
    (none_handles nodes c.args.place c.begun-begun.result c.begun-begun.ensures c.in_err-at.ensures)
