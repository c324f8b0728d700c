use Rattle.class_search.proofs.Searched.{interface_searched}
use Rattle.class_search.proofs.search.in_interface.Goals as goal

pub returns-clause-searched : goal.returns-clause-searched
returns-clause-searched c = interface_searched c.args.types.now c.args.supers.now c.requires.supers c.requires.bases c.requires.interfaces c.args.t.0 c.requires.kind c.object_behind-last.result c.object_behind-last.ensures
