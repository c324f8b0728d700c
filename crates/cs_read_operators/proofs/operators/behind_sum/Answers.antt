use Rattle.std.proofs.Common.{sym, ◌∙◌}
use Rattle.cs_read_calls.specs.Asked.{inner_of}
use Rattle.cs_read_operators.proofs.Behind.{nothing_behind}
use Rattle.cs_read_operators.proofs.operators.behind_sum.Goals as goal

pub returns-then-not-begins : goal.returns-then-not-begins
returns-then-not-begins g c =
    let at = c.args.level.now.at in
    nothing_behind at.left (inner_of at) c.args.sum c.args.tokens.now (sym c.begins.ensures ∙ c.if-not-begins.true)
