use Rattle.std.proofs.Common.{Bool, List, subst}
use Rattle.class_implemented.specs.Marked.{AreMarkedMore}
use Rattle.class_implemented.proofs.Stand.{fresh_at, within_at, at_entered}
use Rattle.class_implemented.proofs.standing.entered.Goals as goal

pub opened-requires-clause-within : goal.opened-requires-clause-within
opened-requires-clause-within c = within_at c.args.known.now c.requires.known c.of_owner-own.result.now c.args.t.0 c.of_owner-own.ensures.exact

pub opened-requires-clause-fresh : goal.opened-requires-clause-fresh
opened-requires-clause-fresh c =
    fresh_at c.args.known.now c.requires.known c.args.standing c.requires.below.0 c.of_owner-own.result.now c.args.t.0 c.requires.below.1 c.requires.below.2 c.of_owner-own.ensures.exact

pub returns : goal.returns
returns c = λ path at below.
    let known = c.args.known.now in
    let s = c.args.standing in
    let marked = subst (λ (l : List Bool). AreMarkedMore known l c.args.t.0 s.marks.items c.marks_with-marks.result.items) c.as_slice.ensures.value c.marks_with-marks.ensures in
    at_entered known c.requires.known s (record { stacks = c.in_ok-stacks.stacks; flags = c.with_flag-flags.result; marks = c.marks_with-marks.result }) path c.of_owner-own.result.now c.args.t.0 at below
    c.of_owner-own.ensures.exact c.in_ok-stacks.ensures.stacked c.in_ok-stacks.ensures.more c.with_flag-flags.ensures marked
