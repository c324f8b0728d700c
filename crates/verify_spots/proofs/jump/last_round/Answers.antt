use Rattle.std.proofs.Common.{◌-◌, length, get_or, below_more, arith}
use Rattle.cil_regions.specs.declared.region.Region.{Region}
use Rattle.verify_spots.specs.Spots.{StandsIn}
use Rattle.verify_spots.specs.Questions.{span_of}
use Rattle.verify_spots.proofs.Nodes.{none_here}
use Rattle.verify_spots.proofs.Innermost.{found, not_found}
use Rattle.verify_spots.proofs.jump.last_round.Goals as goal

pub returns-then-stands_in-clause-found : goal.returns-then-stands_in-clause-found
returns-then-stands_in-clause-found c =
    found c.args.regions.now.body.now c.args.regions.now.nodes.now c.args.number c.loop-back.back c.loop-back.invariant c.loop-back-test.true _ c.if-stands_in.ensures.yes

pub loop-back-preserved : goal.loop-back-preserved
loop-back-preserved c =
    below_more (λ k. (d : Region) → StandsIn c.args.regions.now.body.now (span_of (get_or c.args.regions.now.nodes.now (length c.args.regions.now.nodes.now - 1 - k) d)) c.args.number → ⊥) c.loop-back.back c.loop-back.invariant
    (none_here (λ (node : Region). StandsIn c.args.regions.now.body.now (span_of node) c.args.number) c.args.regions.now.nodes.now (length c.args.regions.now.nodes.now - 1 - c.loop-back.back) _ (omega (arith, c.loop-back-test.true)) c.if-stands_in.ensures.no)

pub returns-clause-none : goal.returns-clause-none
returns-clause-none c = λ is.
    not_found c.args.regions.now.body.now c.args.regions.now.nodes.now c.args.number c.loop-back.back c.loop-back.invariant c.loop-back-test.false
