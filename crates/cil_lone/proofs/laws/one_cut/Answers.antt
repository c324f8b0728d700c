use Rattle.cil_lone.proofs.Consequences.{of_all_bodies, of_lone_bodies}
use Rattle.cil_lone.proofs.laws.one_cut.Goals as goal

pub returns : goal.returns
returns c = record { all = of_all_bodies; lone = of_lone_bodies }
