use Rattle.std.proofs.Common.{refl}
use Rattle.verify_spots.proofs.Innermost.{ends, ends_not, none_round}
use Rattle.verify_spots.proofs.jump.ends_no_finally.Goals as goal

pub returns-in-Some-clause-yes : goal.returns-in-Some-clause-yes
returns-in-Some-clause-yes c =
    ends c.args.regions.now.body.now c.args.regions.now.nodes.now c.requires.nodes c.requires.laminar c.args.number c.in-Some.node (c.in-Some.ensures.found c.in-Some.node refl) c.is_finally.result c.is_finally.ensures.yes c.is_finally.ensures.no

pub returns-in-Some-clause-no : goal.returns-in-Some-clause-no
returns-in-Some-clause-no c =
    ends_not c.args.regions.now.body.now c.args.regions.now.nodes.now c.requires.nodes c.requires.laminar c.args.number c.in-Some.node (c.in-Some.ensures.found c.in-Some.node refl) c.is_finally.result c.is_finally.ensures.yes c.is_finally.ensures.no

pub returns-in-None-clause-no : goal.returns-in-None-clause-no
returns-in-None-clause-no c =
    none_round c.args.regions.now.body.now c.args.regions.now.nodes.now c.requires.nodes c.requires.laminar c.args.number (c.in-None.ensures.none refl)
