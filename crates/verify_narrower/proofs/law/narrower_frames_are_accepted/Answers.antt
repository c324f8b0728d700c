use Rattle.verify_narrower.proofs.Whole.{law}
use Rattle.verify_narrower.proofs.law.narrower_frames_are_accepted.Goals as goal

pub returns : goal.returns
returns c = law
