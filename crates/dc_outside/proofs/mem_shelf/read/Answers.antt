use Rattle.std.proofs.Common.{rules}
use Rattle.std.specs.Option.{option_copied}
use Rattle.dc_outside.proofs.Files.{file_of-found}
use Rattle.dc_outside.proofs.mem_shelf.read.Goals as goal

pub returns-in_default : goal.returns-in_default
returns-in_default c =
    let file = file_of-found c.args.files.now c.args.name.now (option_copied c.entry_of.result) c.entry_of.ensures in
    search rules

pub returns-then-limit-length : goal.returns-then-limit-length
returns-then-limit-length c =
    let file = file_of-found c.args.files.now c.args.name.now (option_copied c.entry_of.result) c.entry_of.ensures in
    search rules

pub returns : goal.returns
returns c =
    let file = file_of-found c.args.files.now c.args.name.now (option_copied c.entry_of.result) c.entry_of.ensures in
    search rules
