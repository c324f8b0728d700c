use Rattle.std.proofs.Common.{refl}
use Rattle.class_parts.proofs.Climb.{lower_base}
use Rattle.class_implemented.proofs.Up.{chain_begins, chain_on, chain_ends, chain_clean, base_class, type_within}
use Rattle.class_implemented.proofs.missing.missing_in_class.Goals as goal

pub open_from-least-requires-clause-within : goal.open_from-least-requires-clause-within
open_from-least-requires-clause-within c = type_within c.args.known.now.types.now c.args.c.0 _ c.requires.class

pub loop-base-init : goal.loop-base-init
loop-base-init c = chain_begins c.args.known.now c.args.c.0 c.open_from-least.result c.requires.class c.open_from-least.ensures

pub returns-then-is_clean : goal.returns-then-is_clean
returns-then-is_clean c = chain_clean c.args.known.now c.args.clean.now c.args.c.0 c.loop-base.at.0 c.in-Some.base.0 c.loop-base.least c.requires.known c.requires.clean c.loop-base.invariant c.in-Some.ensures.some (c.if-is_clean.ensures refl)

pub open_from-requires-clause-within : goal.open_from-requires-clause-within
open_from-requires-clause-within c = type_within c.args.known.now.types.now c.in-Some.base.0 _ (base_class c.args.known.now c.loop-base.at.0 c.in-Some.base.0 c.requires.known c.in-Some.ensures.some)

pub loop-base-smaller : goal.loop-base-smaller
loop-base-smaller c = lower_base c.args.known.now.types.now c.args.known.now.order.now c.loop-base.at.0 c.in-Some.base.0 c.requires.known.order c.in-Some.ensures.some

pub loop-base-preserved : goal.loop-base-preserved
loop-base-preserved c =
    rw c.lesser-least.ensures
    (chain_on c.args.known.now c.args.c.0 c.loop-base.at.0 c.in-Some.base.0 c.loop-base.least c.open_from.result c.requires.class c.loop-base.invariant c.in-Some.ensures.some c.open_from.ensures)

pub returns : goal.returns
returns c = chain_ends c.args.known.now c.args.c.0 c.loop-base.at.0 c.loop-base.least c.loop-base.invariant c.in_default.ensures.none
