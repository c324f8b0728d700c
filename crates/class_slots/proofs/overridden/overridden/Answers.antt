use Rattle.std.proofs.Common.{◌≡◌, ◌∙◌, Some, refl, ap, sym}
use Rattle.std.proofs.lemmas.Option.{slice_get-get_or}
use Rattle.std.specs.List.{slice_get}
use Rattle.class_slots.proofs.Near.{over_found, over_none}
use Rattle.class_slots.proofs.overridden.overridden.Goals as goal

pub returns-clause-some : goal.returns-clause-some
returns-clause-some c =
    let members = c.args.known.now.members.now in
    let row = c.in_ok-row.row.now in
    let stands : slice_get members c.args.m ≡ Some row =
    let there = c.in_ok-row.ensures.lookup.3 in slice_get-get_or members c.args.m row there.0 ∙ ap Some (sym (there.1 row)) in
    over_found c.args.known.now c.requires.known row c.args.stacks.now c.args.t.0 c.args.m stands c.requires.owned (c.if-not-takes_over.ensures.yes refl) c.requires.above c.innermost_alike.result c.innermost_alike.ensures.some

pub returns-clause-none : goal.returns-clause-none
returns-clause-none c =
    let members = c.args.known.now.members.now in
    let row = c.in_ok-row.row.now in
    let stands : slice_get members c.args.m ≡ Some row =
    let there = c.in_ok-row.ensures.lookup.3 in slice_get-get_or members c.args.m row there.0 ∙ ap Some (sym (there.1 row)) in
    over_none c.args.known.now c.requires.known row c.args.stacks.now c.args.t.0 c.args.m stands c.requires.owned c.requires.above c.innermost_alike.result c.innermost_alike.ensures.none
