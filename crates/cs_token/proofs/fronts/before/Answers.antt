use Rattle.std.proofs.Common.{◌≡◌, ◌-◌, length, length-append, ap, arith}
use Rattle.std.proofs.lemmas.Str.{IsCharBoundary-at_seam}
use Rattle.cs_token.proofs.fronts.before.Goals as goal

pub range-requires-clause-end_boundary : goal.range-requires-clause-end_boundary
range-requires-clause-end_boundary c =
    let text = c.args.text.now in
    let rest = c.args.rest.now in
    let front = c.requires.front in
    let size : length text - length rest ≡ length front = omega (arith, ap length c.requires.whole, length-append front rest) in
    rw size (IsCharBoundary-at_seam text front rest c.requires.whole c.utf8.rest)
