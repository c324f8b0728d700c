use Rattle.std.proofs.lemmas.Option.{slice_get_within}
use Rattle.cli_refs.proofs.Near.{sign_at, top_meant, none_meant}
use Rattle.cli_refs.proofs.walked.meant.Goals as goal

pub top_for-requires-clause-within : goal.top_for-requires-clause-within
top_for-requires-clause-within c = slice_get_within c.args.known.now.sought.now c.args.q c.requires.asks.0 c.requires.asks.1

pub returns-in-Some : goal.returns-in-Some
returns-in-Some c = λ s stands.
    let known = c.args.known.now in
    let sign = sign_at known c.requires.known c.args.q (slice_get_within known.sought.now c.args.q s stands) in
    top_meant known c.requires.known c.args.q sign.0 s stands sign.1 c.args.stacks.now c.args.t.0 c.requires.open_ c.requires.asks c.top_for.result (c.top_for.ensures sign.0 sign.1) c.in-Some.m c.in-Some.is

pub returns-in-None : goal.returns-in-None
returns-in-None c = λ s stands.
    let known = c.args.known.now in
    let sign = sign_at known c.requires.known c.args.q (slice_get_within known.sought.now c.args.q s stands) in
    none_meant known c.requires.known c.args.q sign.0 s stands sign.1 c.args.stacks.now c.args.t.0 c.requires.open_ c.requires.asks c.top_for.result (c.top_for.ensures sign.0 sign.1) c.in-None.is
