use Rattle.cil_body.proofs.SectionFacts.{bound_found}
use Rattle.cil_body.proofs.section.is_bound.Goals as goal

pub returns-else-place-size : goal.returns-else-place-size
returns-else-place-size c =
    rw c.is_ok.ensures.value
    (bound_found c.args.starts.now c.args.size c.args.place c.binary_search.result c.requires c.binary_search.ensures.position c.if-place-size.false)
