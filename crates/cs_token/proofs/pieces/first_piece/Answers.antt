use Rattle.std.proofs.Common.{sym, refl, ◌∙◌}
use Rattle.std.specs.Str.{chars}
use Rattle.cs_token.proofs.Heads.{word_here}
use Rattle.cs_token.proofs.Parts.{past_each}
use Rattle.cs_token.proofs.pieces.first_piece.Goals as goal

pub returns-then-begins_word-clause-found : goal.returns-then-begins_word-clause-found
returns-then-begins_word-clause-found c =
    let begins = c.if-begins_word.ensures in
    let here = word_here (chars c.args.text.now) c.in_ok-first.first (chars c.in_ok-first.rest.now) c.in_ok-first.ensures.read (sym begins.value) (begins.continues refl) in
    (here ∙ c.word.ensures.found.0, c.word.ensures.found.1)

pub returns-then-first-eq64-clause-passes : goal.returns-then-first-eq64-clause-passes
returns-then-first-eq64-clause-passes c = past_each c.escaped.result (λ p. p.1.now) c.in_ok-first.rest.now c.args.text.now c.escaped.ensures.passes c.in_ok-first.ensures.passes

pub returns-then-first-eq39-clause-passes : goal.returns-then-first-eq39-clause-passes
returns-then-first-eq39-clause-passes c = past_each c.quoted_character.result (λ p. p.1.now) c.in_ok-first.rest.now c.args.text.now c.quoted_character.ensures.passes c.in_ok-first.ensures.passes

pub returns-then-first-eq34-clause-passes : goal.returns-then-first-eq34-clause-passes
returns-then-first-eq34-clause-passes c = past_each c.quoted_text.result (λ p. p.1.now) c.in_ok-first.rest.now c.args.text.now c.quoted_text.ensures.passes c.in_ok-first.ensures.passes
