use Rattle.cli_profile.specs.Rows.{Subject}
use Rattle.cli_profile.proofs.Order.{found, met, unmet, all}
use Rattle.cli_profile.proofs.Judging.{fits}
use Rattle.cli_profile.proofs.check.check_rows.Goals as goal

pub condition-requires-clause-within : goal.condition-requires-clause-within
condition-requires-clause-within c =
    let s : Subject = record { metadata = c.args.metadata.now; reached = c.args.reached.now } in
    (found s all (c.in-Some.judged, c.in-Some.k) c.in-Some.ensures.broken).within

pub condition-requires-clause-fails : goal.condition-requires-clause-fails
condition-requires-clause-fails c =
    let s : Subject = record { metadata = c.args.metadata.now; reached = c.args.reached.now } in
    (found s all (c.in-Some.judged, c.in-Some.k) c.in-Some.ensures.broken).fails

pub token-requires : goal.token-requires
token-requires c =
    let s : Subject = record { metadata = c.args.metadata.now; reached = c.args.reached.now } in
    let first = found s all (c.in-Some.judged, c.in-Some.k) c.in-Some.ensures.broken in
    fits c.in-Some.judged s c.in-Some.k c.requires.few.fields c.requires.few.methods c.requires.few_specs first.within first.before

pub returns-in-Some-clause-unmet : goal.returns-in-Some-clause-unmet
returns-in-Some-clause-unmet c =
    let s : Subject = record { metadata = c.args.metadata.now; reached = c.args.reached.now } in
    rw c.token.ensures (unmet s (c.in-Some.judged, c.in-Some.k) c.condition.result c.in-Some.ensures.broken c.condition.ensures)

pub returns-in-None-clause-met : goal.returns-in-None-clause-met
returns-in-None-clause-met c =
    let s : Subject = record { metadata = c.args.metadata.now; reached = c.args.reached.now } in
    met s c.in-None.ensures.met
