use Rattle.std.proofs.Common.{refl}
use Rattle.cs_rows.proofs.rows.kinds_are_as_meant.Goals as goal

pub returns : goal.returns
returns c = (refl, refl, refl, refl)
