use Rattle.verify_least_frames.proofs.Frames.{least_frames}
use Rattle.verify_least_frames.proofs.law.least_frames_exist.Goals as goal

pub returns : goal.returns
returns c = λ s body of verified. least_frames s body verified.0 verified.1
