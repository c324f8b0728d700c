-- A byte is written as its two hexadecimal digits.
use Rattle.std.proofs.Common.{rules}
use Rattle.std.proofs.lemmas.Fmt.{hex_byte}
use Rattle.ilspy_cli.proofs.lines.not_yet.Goals as goal

pub returns : goal.returns
returns c = search (rules, hex_byte)
