use Rattle.std.proofs.Common.{◌≤◌, length, sym, ap, ◌∙◌, arith}
use Rattle.std.specs.Prelude.{map}
use Rattle.std.proofs.lemmas.List.{take_all}
use Rattle.cli_metadata.specs.Widths.{width_of}
use Rattle.cli_metadata.proofs.widths.widths_of.Goals as goal

pub returns : goal.returns
returns c =
    let short : length c.loop-i.widths ≤ c.loop-i.i = omega (arith, c.loop-i.invariant.1) in
    let all : length c.args.columns.now ≤ c.loop-i.i = omega (arith, c.told-columns) in
    sym (take_all c.loop-i.i c.loop-i.widths short) ∙ c.loop-i.invariant.0
    ∙ ap (map (width_of c.args.sizes c.args.counts.now)) (take_all c.loop-i.i c.args.columns.now all)
