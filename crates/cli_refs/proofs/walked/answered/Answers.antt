use Rattle.std.proofs.Common.{subst, Option, ℕ}
use Rattle.cli_refs.proofs.Answering.{AreAnswering, answering_begins, asks_there, before_there, answering_lower, answering_on, answering_ends}
use Rattle.cli_refs.proofs.walked.answered.Goals as goal

pub loop-at-init : goal.loop-at-init
loop-at-init c = answering_begins c.args.known.now c.args.t.0 c.args.found.items c.last_of-at.result c.requires.known c.requires.long c.last_of-at.ensures.there c.last_of-at.ensures.past

pub with_one-found-requires-clause-long : goal.with_one-found-requires-clause-long
with_one-found-requires-clause-long c = c.loop-at.invariant.long

pub with_one-found-requires-clause-asks : goal.with_one-found-requires-clause-asks
with_one-found-requires-clause-asks c =
    let known = c.args.known.now in
    let are = subst (λ (o : Option ℕ). AreAnswering known c.args.t.0 c.args.found.items c.loop-at.found.items o) c.in-Some.is c.loop-at.invariant in
    asks_there known c.args.t.0 c.args.found.items c.loop-at.found.items c.in-Some.q are

pub before_of-at-requires : goal.before_of-at-requires
before_of-at-requires c =
    let known = c.args.known.now in
    let are = subst (λ (o : Option ℕ). AreAnswering known c.args.t.0 c.args.found.items c.loop-at.found.items o) c.in-Some.is c.loop-at.invariant in
    before_there known c.args.t.0 c.args.found.items c.loop-at.found.items c.in-Some.q are

pub loop-at-smaller : goal.loop-at-smaller
loop-at-smaller c =
    let known = c.args.known.now in
    let are = subst (λ (o : Option ℕ). AreAnswering known c.args.t.0 c.args.found.items c.loop-at.found.items o) c.in-Some.is c.loop-at.invariant in
    let lower = answering_lower known c.args.t.0 c.args.found.items c.loop-at.found.items c.in-Some.q c.before_of-at.result are c.before_of-at.ensures in
    rw c.in-Some.is lower

pub loop-at-preserved : goal.loop-at-preserved
loop-at-preserved c =
    let known = c.args.known.now in
    let are = subst (λ (o : Option ℕ). AreAnswering known c.args.t.0 c.args.found.items c.loop-at.found.items o) c.in-Some.is c.loop-at.invariant in
    answering_on known c.args.t.0 c.args.found.items c.loop-at.found.items c.with_one-found.result.items c.in-Some.q c.before_of-at.result are c.before_of-at.ensures c.with_one-found.ensures

pub returns : goal.returns
returns c =
    let known = c.args.known.now in
    let are = subst (λ (o : Option ℕ). AreAnswering known c.args.t.0 c.args.found.items c.loop-at.found.items o) c.in_default.is c.loop-at.invariant in
    answering_ends known c.args.t.0 c.args.found.items c.loop-at.found.items are
