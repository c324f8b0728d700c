-- So far the program's name and the words before `word-index` are there.
use Rattle.std.proofs.Common.{◌≡◌, ◌∷◌, map, take}
use Rattle.ilspy_cli.proofs.words.texts_of.Given as goal

abbrev pub invariant-loop-word : goal.invariant-loop-word
invariant-loop-word l = map (λ text. text.now) l.texts.items ≡ l.program ∷ take l.word-index l.rest
