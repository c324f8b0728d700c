use Rattle.std.proofs.Common.{arith}
use Rattle.cli_literals.proofs.FirstOff.{item, on_yes, on_no}
use Rattle.cli_literals.proofs.One.{not_one, row, fit, no_fit}
use Rattle.cli_literals.proofs.bad.has_one_fit.Goals as goal

pub returns-then-found-ne1-clause-no : goal.returns-then-found-ne1-clause-no
returns-then-found-ne1-clause-no c =
    let within = c.requires.within in
    let long = c.requires.known.constants.long in
    not_one c.args.metadata.now c.args.fields.now c.requires.known.constants c.args.k _ (item c.args.fields.now.constants.now c.args.k (0, 0) (omega (arith, within, long))) c.if-found-ne1.true

pub is_fit-requires : goal.is_fit-requires
is_fit-requires c =
    let within = c.requires.within in
    let long = c.requires.known.constants.long in
    row c.args.metadata.now c.args.fields.now c.requires.known.constants c.args.k _ (item c.args.fields.now.constants.now c.args.k (0, 0) (omega (arith, within, long))) c.if-found-ne1.false

pub returns-clause-yes : goal.returns-clause-yes
returns-clause-yes c =
    let within = c.requires.within in
    let long = c.requires.known.constants.long in
    let tys = c.requires.known.tys in
    on_yes _ _ _
    (fit c.args.metadata.now c.args.fields.now c.requires.known.constants c.args.k _ (item c.args.fields.now.constants.now c.args.k (0, 0) (omega (arith, within, long))) c.if-found-ne1.false _
    (item c.args.fields.now.tys.now c.args.k _ (omega (arith, within, tys)))) c.is_fit.ensures.yes

pub returns-clause-no : goal.returns-clause-no
returns-clause-no c =
    let within = c.requires.within in
    let long = c.requires.known.constants.long in
    let tys = c.requires.known.tys in
    on_no _ _ _
    (no_fit c.args.metadata.now c.args.fields.now c.requires.known.constants c.args.k _ (item c.args.fields.now.constants.now c.args.k (0, 0) (omega (arith, within, long))) c.if-found-ne1.false _
    (item c.args.fields.now.tys.now c.args.k _ (omega (arith, within, tys)))) c.is_fit.ensures.no
