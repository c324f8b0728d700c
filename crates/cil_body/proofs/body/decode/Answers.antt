use Rattle.std.proofs.Common.{◌≡◌, ◌∙◌, ap, map}
use Rattle.std.proofs.lemmas.Result.{err_from_is_err_and}
use Rattle.cil_body.specs.Code.{starts_of, instr_of}
use Rattle.cil_body.proofs.DecodeFacts.{IsRead, starts_rise, cut_refused, aim_refused, is_aimed, section_refused, clause_refused, is_body}
use Rattle.cil_body.proofs.body.decode.Goals as goal

pub returns-in_err-placed-clause-fault : goal.returns-in_err-placed-clause-fault
returns-in_err-placed-clause-fault c =
    let p = err_from_is_err_and c.from_residual-in_err-placed.result c.from_residual-in_err-placed.ensures.1 in
    let same : p.0 ≡ c.in_err-placed.field-0.0 = p.2 in
    rw (p.1, same)
    (cut_refused c.in_ok-code.code.now c.in_ok-code.ensures.whole c.in_ok-code.ensures.code _ c.in_err-placed.ensures.fault)

pub returns-in_err-instrs-clause-fault : goal.returns-in_err-instrs-clause-fault
returns-in_err-instrs-clause-fault c =
    let p = err_from_is_err_and c.from_residual-in_err-instrs.result c.from_residual-in_err-instrs.ensures.1 in
    let same : p.0 ≡ c.in_err-instrs.field-0.0 = p.2 in
    let read : IsRead c.args.bytes.now c.args.code_limit c.in_ok-header.header c.in_ok-code.code.now c.in_ok-placed.placed.items =
    record { whole = c.in_ok-code.ensures.whole; is = c.in_ok-code.ensures.code; reads = c.in_ok-placed.ensures.read } in
    rw (p.1, same)
    (aim_refused read c.as_slice-2.ensures.value _ c.in_err-instrs.ensures.fault)

pub raw_clauses-requires-clause-order : goal.raw_clauses-requires-clause-order
raw_clauses-requires-clause-order c =
    rw (c.as_slice-4.ensures.value, c.in_ok-starts.ensures, c.as_slice.ensures.value)
    (starts_rise 0 c.in_ok-code.code.now c.in_ok-placed.placed.items _ _ c.in_ok-placed.ensures.read)

pub returns-in_err-raw-clause-fault : goal.returns-in_err-raw-clause-fault
returns-in_err-raw-clause-fault c =
    let p = err_from_is_err_and c.from_residual-in_err-raw.result c.from_residual-in_err-raw.ensures.1 in
    let same : p.0 ≡ c.in_err-raw.field-0.0 = p.2 in
    let begin = c.in_ok-starts.ensures ∙ ap starts_of c.as_slice.ensures.value in
    let read : IsRead c.args.bytes.now c.args.code_limit c.in_ok-header.header c.in_ok-code.code.now c.in_ok-placed.placed.items =
    record { whole = c.in_ok-code.ensures.whole; is = c.in_ok-code.ensures.code; reads = c.in_ok-placed.ensures.read } in
    let aimed = is_aimed read c.as_slice-2.ensures.value (c.as_slice-3.ensures.value ∙ begin) c.in_ok-instrs.ensures.aimed in
    rw (p.1, same)
    (section_refused aimed (c.as_slice-4.ensures.value ∙ begin) _ c.in_err-raw.ensures.fault)

pub returns-in_err-clauses-clause-fault : goal.returns-in_err-clauses-clause-fault
returns-in_err-clauses-clause-fault c =
    let p = err_from_is_err_and c.from_residual-in_err-clauses.result c.from_residual-in_err-clauses.ensures.1 in
    let same : p.0 ≡ c.in_err-clauses.field-0.0 = p.2 in
    let begin = c.in_ok-starts.ensures ∙ ap starts_of c.as_slice.ensures.value in
    let read : IsRead c.args.bytes.now c.args.code_limit c.in_ok-header.header c.in_ok-code.code.now c.in_ok-placed.placed.items =
    record { whole = c.in_ok-code.ensures.whole; is = c.in_ok-code.ensures.code; reads = c.in_ok-placed.ensures.read } in
    let aimed = is_aimed read c.as_slice-2.ensures.value (c.as_slice-3.ensures.value ∙ begin) c.in_ok-instrs.ensures.aimed in
    rw (p.1, same)
    (clause_refused aimed (c.as_slice-4.ensures.value ∙ begin) c.as_slice-5.ensures.value c.in_ok-raw.ensures.read _ c.in_err-clauses.ensures.fault)

pub returns-clause-read : goal.returns-clause-read
returns-clause-read c =
    let begin = c.in_ok-starts.ensures ∙ ap starts_of c.as_slice.ensures.value in
    let read : IsRead c.args.bytes.now c.args.code_limit c.in_ok-header.header c.in_ok-code.code.now c.in_ok-placed.placed.items =
    record { whole = c.in_ok-code.ensures.whole; is = c.in_ok-code.ensures.code; reads = c.in_ok-placed.ensures.read } in
    let aimed = is_aimed read c.as_slice-2.ensures.value (c.as_slice-3.ensures.value ∙ begin) c.in_ok-instrs.ensures.aimed in
    let instrs = c.of.ensures ∙ c.in_ok-instrs.ensures.instrs ∙ ap (map (instr_of c.in_ok-code.code.now)) c.as_slice-2.ensures.value ∙ ap (λ b. map (instr_of b) c.in_ok-placed.placed.items) c.in_ok-code.ensures.code in
    is_body aimed (c.as_slice-4.ensures.value ∙ begin) c.as_slice-5.ensures.value c.in_ok-raw.ensures.read c.in_ok-clauses.ensures.taken c.of.result c.of-2.result instrs (c.of-2.ensures ∙ c.in_ok-clauses.ensures.clauses)
