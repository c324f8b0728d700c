use Rattle.std.proofs.Common.{◌≡◌, arith, rules}
use Rattle.std.proofs.lemmas.Result.{err_from_is_err_and}
use Rattle.cil_body.proofs.SectionFacts.{none_read, section_missing, section_broken, section_long, sections_true, more_read, all_read}
use Rattle.cil_body.proofs.section.raw_clauses.Goals as goal

pub loop-section-init : goal.loop-section-init
loop-section-init c = (omega (arith, c.aligned-at.ensures), none_read _ _ _ _ _ c.new-clauses.ensures.items c.aligned-at.ensures)

pub returns-in_default-clause-fault : goal.returns-in_default-clause-fault
returns-in_default-clause-fault c = (
  sections_true _ c.if-not-header.false,
  c.bad_section.ensures.cause,
  section_missing c.loop-section.invariant.1 _ c.bad_section.ensures.place c.in_default.ensures.none,
)

pub returns-in_err-add_clauses-clause-fault : goal.returns-in_err-add_clauses-clause-fault
returns-in_err-add_clauses-clause-fault c =
    let p = err_from_is_err_and c.from_residual.result c.from_residual.ensures.1 in
    let same : p.0 ≡ c.in_err-add_clauses.field-0.0 = p.2 in
    rw (p.1, same)
    (section_broken c.loop-section.invariant.1 c.in-Some.section c.in-Some.ensures.found (sections_true _ c.if-not-header.false) c.in_err-add_clauses.field-0.0 c.in_err-add_clauses.ensures.fault)

pub returns-then-not-section-clause-read : goal.returns-then-not-section-clause-read
returns-then-not-section-clause-read c =
    all_read c.loop-section.invariant.1 c.in-Some.section _ c.in-Some.ensures.found (search rules) c.if-not-header.false c.in_ok-add_clauses.ensures.added c.in_ok-add_clauses.ensures.fine

pub loop-section-smaller : goal.loop-section-smaller
loop-section-smaller c =
    omega (arith, section_long _ _ _ c.in-Some.ensures.found, c.in-Some.ensures.found.within)

pub loop-section-preserved : goal.loop-section-preserved
loop-section-preserved c = (
  omega (arith, c.in-Some.ensures.found.within),
  more_read c.loop-section.invariant.1 c.in-Some.section _ c.in-Some.ensures.found (search rules) c.in_ok-add_clauses.ensures.added c.in_ok-add_clauses.ensures.fine,
)
