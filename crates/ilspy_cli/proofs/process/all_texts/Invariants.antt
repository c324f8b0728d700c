-- So far the words before this one are there.
use Rattle.std.proofs.Common.{◌≡◌, map}
use Rattle.std.specs.String.{string_bytes}
use Rattle.ilspy_cli.proofs.process.all_texts.Given as goal

abbrev pub invariant-loop-word : goal.invariant-loop-word
invariant-loop-word l = l.words.items ≡ map string_bytes l.yielded
