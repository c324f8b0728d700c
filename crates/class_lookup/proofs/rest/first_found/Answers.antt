use Rattle.class_search.specs.Left.{types_left}
use Rattle.class_lookup.specs.Left.{rest_left}
use Rattle.class_lookup.proofs.Those.{those_are, next_type}
use Rattle.class_lookup.proofs.rest.first_found.Goals as goal

pub loop-m-preserved : goal.loop-m-preserved
loop-m-preserved c =
    let members = c.args.members.now in
    let name = c.args.name.now in
    let those = c.of_name-those in
    let are = those_are members name c.in_ok-t.t.0 those.result.now those.ensures.rising those.ensures.exact in (
      c.in_ok-t.ensures.can,
      next_type members name c.args.named.now.nameless (rest_left members c.args.named.now name c.args.rest) c.loop-m.those.now those.result.now (types_left c.loop-m.search) (types_left c.in_ok-t.behind) c.in_ok-t.t.0 c.loop-m.invariant.1 c.in_default.ensures c.in_ok-t.ensures.first are,
    )
