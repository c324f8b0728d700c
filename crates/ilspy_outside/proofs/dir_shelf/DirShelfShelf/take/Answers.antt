-- A front that is no longer than the limit is the file.
use Rattle.std.proofs.Common.{subst}
use Rattle.ilspy_outside.specs.System.{IsFront}
use Rattle.ilspy_outside.proofs.Reading.{takes}
use Rattle.ilspy_outside.proofs.dir_shelf.DirShelfShelf.take.Goals as goal

pub returns-in-Ok-clause-takes : goal.returns-in-Ok-clause-takes
returns-in-Ok-clause-takes g c = takes (g.D.Disk.files c.args.self.now.disk) c.args.name.now c.args.limit c.in-Ok.front c.within-answer.result
    (subst (λ path. IsFront (g.D.Disk.files c.args.self.now.disk) path c.args.limit c.in-Ok.front.items) c.as_str.ensures c.in-Ok.ensures) c.within-answer.ensures
