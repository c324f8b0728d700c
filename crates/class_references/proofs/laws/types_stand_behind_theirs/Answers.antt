use Rattle.class_references.proofs.Outers.{types_stand_behind_theirs}
use Rattle.class_references.proofs.laws.types_stand_behind_theirs.Goals as goal

pub returns : goal.returns
returns c = types_stand_behind_theirs
