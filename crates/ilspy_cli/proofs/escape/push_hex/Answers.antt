-- A number below 16 is written as its one hexadecimal digit.
use Rattle.std.proofs.Common.{rules}
use Rattle.std.proofs.lemmas.Fmt.{hex_one_digit}
use Rattle.ilspy_cli.proofs.escape.push_hex.Goals as goal

pub returns : goal.returns
returns c = search (rules, hex_one_digit)
