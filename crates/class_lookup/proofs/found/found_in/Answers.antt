use Rattle.std.proofs.Common.{◌∙◌}
use Rattle.class_search.specs.Left.{types_left}
use Rattle.class_lookup.specs.Left.{all_found}
use Rattle.class_lookup.proofs.Those.{those_are, no_first, first_known, known_within, name_known, begun_in, skipped}
use Rattle.class_lookup.proofs.found.found_in.Goals as goal

pub own_name-requires : goal.own_name-requires
own_name-requires c =
    let members = c.args.members.now in
    let name = c.args.name.now in
    let m = c.in-Some-first.first.now in
    known_within members name c.in-Some.t.0 m (first_known members name c.in-Some.t.0 m c.of_name-those.result.now c.of_name-those.ensures.exact c.in-Some-first.ensures.value)

pub returns-in-Some-first-clause-left : goal.returns-in-Some-first-clause-left
returns-in-Some-first-clause-left c =
    let members = c.args.members.now in
    let name = c.args.name.now in
    let m = c.in-Some-first.first.now in
    let nameless = c.args.named.now.nameless in
    let those = c.of_name-those in
    let are = those_are members name c.in-Some.t.0 those.result.now those.ensures.rising those.ensures.exact in
    let known = first_known members name c.in-Some.t.0 m those.result.now those.ensures.exact c.in-Some-first.ensures.value in
    begun_in members name nameless c.own_name.result.now (all_found members nameless name (types_left c.args.search)) those.result.now (types_left c.loop-t.search) (types_left c.in-Some.behind) c.in-Some.t.0
    (c.own_name.ensures ∙ name_known members name c.in-Some.t.0 m known) c.loop-t.invariant.1 c.in-Some.ensures.first are

pub loop-t-preserved : goal.loop-t-preserved
loop-t-preserved c =
    let members = c.args.members.now in
    let name = c.args.name.now in
    let nameless = c.args.named.now.nameless in
    let those = c.of_name-those in
    let are = those_are members name c.in-Some.t.0 those.result.now those.ensures.rising those.ensures.exact in (
      c.in-Some.ensures.can,
      skipped members name nameless (all_found members nameless name (types_left c.args.search)) those.result.now (types_left c.loop-t.search) (types_left c.in-Some.behind) c.in-Some.t.0
          c.loop-t.invariant.1 c.in-Some.ensures.first are (no_first those.result.now c.in_default-first.ensures.value),
    )
