use Rattle.cs_written.specs.Written.{written}
use Rattle.cs_written.proofs.Apart.{read_from}
use Rattle.cs_written.proofs.reading.written_is_read.Goals as goal

pub returns : goal.returns
returns c = λ ps last w. read_from (written ps last) ps last w
