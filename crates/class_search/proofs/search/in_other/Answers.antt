use Rattle.class_search.proofs.Searched.{other_searched}
use Rattle.class_search.proofs.search.in_other.Goals as goal

pub returns-clause-searched : goal.returns-clause-searched
returns-clause-searched c = other_searched c.args.types.now c.args.supers.now c.requires.supers c.args.t.0 c.requires.kind
