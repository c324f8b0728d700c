use Rattle.verify_spots.proofs.Nodes.{some, none}
use Rattle.verify_spots.proofs.region.has_region.Goals as goal

pub returns-clause-yes : goal.returns-clause-yes
returns-clause-yes c = some c.args.regions.now.body.now c.args.regions.now.nodes.now c.requires c.args.question c.args.from c.args.to c.has_node.result c.has_node.ensures.yes

pub returns-clause-no : goal.returns-clause-no
returns-clause-no c = none c.args.regions.now.body.now c.args.regions.now.nodes.now c.requires c.args.question c.args.from c.args.to c.has_node.result c.has_node.ensures.no
