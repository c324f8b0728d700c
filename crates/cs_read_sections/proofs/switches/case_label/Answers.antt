use Rattle.std.proofs.Common.{◌≡◌, Err, rules}
use Rattle.dc_base.specs.declared.failure.Or.TheVariants.{Fault as WithFault}
use Rattle.cs_grammar.specs.Reads.{is_deep}
use Rattle.cs_read_sections.proofs.Labels.{case_reads, case_fails}
use Rattle.cs_read_sections.proofs.switches.case_label.Goals as goal

pub returns : goal.returns
returns c =
    case_reads c.args.tokens.now c.place.new.tokens c.take_one.new.tokens c.expect.new.tokens c.in_ok-spot.spot c.in_ok-token.token c.in_ok-literal.literal c.in_ok-spot.ensures c.in_ok-token.ensures c.in_ok-expect.ensures c.in_ok-literal.ensures

pub returns-in_err-expect : goal.returns-in_err-expect
returns-in_err-expect c =
    let is : c.from_residual-in_err-expect.result ≡ Err (WithFault c.in_err-expect.field-0.0) = search rules in
    rw is
    (case_fails c.args.tokens.now c.place.new.tokens c.take_one.new.tokens c.expect.new.tokens c.in_ok-spot.spot c.in_ok-token.token (is_deep c.in_err-expect.field-0.0) c.in_ok-spot.ensures c.in_ok-token.ensures c.in_err-expect.ensures)
