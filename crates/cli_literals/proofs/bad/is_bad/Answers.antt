use Rattle.std.proofs.Common.{false, arith}
use Rattle.cli_literals.proofs.FirstOff.{item, float_bad, not_bad, fit_not_bad}
use Rattle.cli_literals.proofs.bad.is_bad.Goals as goal

pub returns-then-floats-k-clause-yes : goal.returns-then-floats-k-clause-yes
returns-then-floats-k-clause-yes c =
    let within = c.requires.within in
    let long = c.requires.floats.long in
    float_bad c.args.metadata.now c.args.fields.now c.args.k within c.args.floats.now c.requires.floats _ (item c.args.floats.now c.args.k false (omega (arith, within, long))) c.if-floats-k.true

pub returns-then-not-is_literal-clause-no : goal.returns-then-not-is_literal-clause-no
returns-then-not-is_literal-clause-no c =
    let within = c.requires.within in
    let long = c.requires.floats.long in
    not_bad c.args.metadata.now c.args.fields.now c.args.k within c.args.floats.now c.requires.floats _ (item c.args.floats.now c.args.k false (omega (arith, within, long))) c.if-floats-k.false
    (λ literal _. c.if-not-is_literal.ensures.no literal)

pub returns-clause-no : goal.returns-clause-no
returns-clause-no c =
    let within = c.requires.within in
    let long = c.requires.floats.long in
    fit_not_bad c.args.metadata.now c.args.fields.now c.args.k within c.args.floats.now c.requires.floats _ (item c.args.floats.now c.args.k false (omega (arith, within, long))) c.if-floats-k.false
    c.in_ok-fit.fit c.in_ok-fit.ensures.yes
