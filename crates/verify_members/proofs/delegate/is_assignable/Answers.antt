use Rattle.verify_rules.specs.Look.{types_of}
use Rattle.verify_members.proofs.One.{yes_of_one, no_of_one}
use Rattle.verify_members.proofs.delegate.is_assignable.Goals as goal

pub returns-clause-yes : goal.returns-clause-yes
returns-clause-yes c = yes_of_one (types_of c.args.setting.now) c.args.from c.args.to c.from_ref.result.now c.assignable.result c.from_ref.ensures.value c.assignable.ensures.yes

pub returns-clause-no : goal.returns-clause-no
returns-clause-no c = no_of_one (types_of c.args.setting.now) c.args.from c.args.to c.from_ref.result.now c.assignable.result c.from_ref.ensures.value c.assignable.ensures.no
