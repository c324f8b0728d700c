use Rattle.std.proofs.Common.{rules, refl, ◌+◌}
use Rattle.dc_causes.specs.Step.{stop, go}
use Rattle.pe_image.specs.Headers.{magic_of, pe_signature}
use Rattle.pe_image.specs.declared.headers.Format.{Format}
use Rattle.pe_image.specs.Number.{IsU16, IsU32}
use Rattle.pe_image.proofs.Unique.{no_pe, not_signed}
use Rattle.pe_image.proofs.headers.headers_of.Goals as goal

pub returns-in_default-clause-fault : goal.returns-in_default-clause-fault
returns-in_default-clause-fault c = rw c.not_pe.ensures (stop _ ((λ n is. search (rules, is.within)), refl) refl)

pub returns-then-ne-clause-fault : goal.returns-then-ne-clause-fault
returns-then-ne-clause-fault c =
    rw c.not_pe-then-ne.ensures (go c.in-Some.signature c.in-Some.ensures.found (stop _ (not_signed _ c.in-Some.signature c.u32_at-2.ensures.found c.u32_at-2.ensures.past c.if-ne.ensures, refl) refl))

pub returns-in_default-and_then-clause-fault : goal.returns-in_default-and_then-clause-fault
returns-in_default-and_then-clause-fault c =
    let signed : IsU32 c.args.file.now c.in-Some.signature pe_signature = search rules in
    let never : (format : Format) → IsU16 c.args.file.now (c.in-Some.signature + 24) (magic_of format) → ⊥ = search rules in
    rw c.not_pe-in_default-and_then.ensures
    (go c.in-Some.signature c.in-Some.ensures.found (go tt signed ((no_pe c.args.file.now c.in-Some.signature c.in-Some.ensures.found never), refl)))

pub returns-clause-read : goal.returns-clause-read
returns-clause-read c =
    let signed : IsU32 c.args.file.now c.in-Some.signature pe_signature = search rules in
    go c.in-Some.signature c.in-Some.ensures.found (go tt signed (search rules))
