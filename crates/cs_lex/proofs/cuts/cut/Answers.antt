use Rattle.std.proofs.Common.{◌≡◌, ◌+◌, ◌^◌, ◌<◌, false, List, ℕ, rules, length, sym, ◌∙◌, ap, subst, arith}
use Rattle.std.specs.Str.{chars}
use Rattle.cs_token.specs.declared.tokens.Token.{Token}
use Rattle.cs_token.specs.Words.{behind_gap}
use Rattle.cs_token.specs.Cuts.{Cuts}
use Rattle.cs_token.proofs.Parts.{onward}
use Rattle.cs_lex.specs.Cursors.{Counts, tokens_from}
use Rattle.cs_lex.proofs.Advances.{at_start, place_at, empty_text}
use Rattle.cs_lex.proofs.Cursors.{cut_so}
use Rattle.cs_lex.proofs.cuts.cut.Goals as goal

pub before-requires-2 : goal.before-requires-2
before-requires-2 c = onward c.counted-left.result.1.now c.behind_gap-here.result.now c.args.source.now c.counted-left.ensures.ends c.behind_gap-here.ensures.ends

pub at-requires-clause-placed : goal.at-requires-clause-placed
at-requires-clause-placed c =
    let source = c.args.source.now in
    let here = c.behind_gap-here.result.now in
    let small : length source + 1 < 2 ^ 32 = omega (arith, c.requires) in
    at_start source c.before-2.result.now here c.advanced-place.result small c.advanced-place.ensures.text c.before-2.ensures c.advanced-place.ensures.value

pub returns : goal.returns
returns c =
    let source = c.args.source.now in
    let here = c.behind_gap-here.result.now in
    let left = c.counted-left.result.0 in
    let rest = c.counted-left.result.1.now in
    let small : length source + 1 < 2 ^ 32 = omega (arith, c.requires) in
    let at = at_start source c.before-3.result.now rest c.advanced-line.result small c.advanced-line.ensures.text c.before-3.ensures c.advanced-line.ensures.value in
    let place = place_at source rest c.advanced-line.result at in
    let begun = c.behind_gap-here.ensures.rest in
    let counts : Counts left (behind_gap false (chars source)) (chars rest) = subst (λ (text : List ℕ). Counts left text (chars rest)) begun c.counted-left.ensures.count in
    let same : c.at.result ≡ tokens_from (chars source) left (behind_gap false (chars source)) = c.at.ensures ∙ ap (tokens_from (chars source) left) begun in
    record {
      rest = chars rest;
      cuts = (subst (λ (ts : List Token). Cuts (chars source) (chars source) ts (chars rest)) (sym same) (cut_so (chars source) left (chars source) (chars rest) counts), c.counted-left.ensures.end);
      line = ap (λ p. p.0) place;
      column = ap (λ p. p.1) place;
      whole = empty_text rest c.is_empty.result (search rules) c.is_empty.ensures;
    }
