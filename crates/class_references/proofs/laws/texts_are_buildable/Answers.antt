use Rattle.class_references.proofs.Buildable.{texts_are_buildable}
use Rattle.class_references.proofs.laws.texts_are_buildable.Goals as goal

pub returns : goal.returns
returns c = texts_are_buildable
