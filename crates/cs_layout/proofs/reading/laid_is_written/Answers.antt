use Rattle.std.proofs.Common.{[]}
use Rattle.cs_layout.proofs.Written.{bytes_from}
use Rattle.cs_layout.proofs.reading.laid_is_written.Goals as goal

pub returns : goal.returns
returns c = λ ps h. bytes_from [] ps h
