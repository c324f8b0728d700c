use Rattle.std.proofs.Common.{inl, rules}
use Rattle.dc_outside.specs.MemShelf.{file_of}
use Rattle.dc_outside.proofs.Files.{takes}
use Rattle.dc_outside.proofs.mem_shelf.MemShelfShelf.take.Goals as goal

pub returns-then-listed-clause-exact : goal.returns-then-listed-clause-exact
returns-then-listed-clause-exact c = rw (← c.self.view_is) (inl (c.next_fails-listed.ensures.listed.0 c.if-listed.true))

pub returns-clause-takes : goal.returns-clause-takes
returns-clause-takes c = takes (file_of c.args.self.now.entries) c.args.name.now c.args.limit c.read-answer.result (search rules)
