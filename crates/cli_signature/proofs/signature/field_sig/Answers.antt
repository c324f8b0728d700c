use Rattle.std.proofs.Common.{[], ◌∷◌, refl, arith}
use Rattle.std.proofs.lemmas.Result.{err_from_is_err_and}
use Rattle.cli_signature.specs.declared.kind.Kind.TheVariants.{Field}
use Rattle.cli_signature.specs.declared.kind.Slot.TheVariants.{Whole}
use Rattle.cli_signature.proofs.Blobs.{reach_field, reach_more, reach_fault, reach_all, reach_trailing}
use Rattle.cli_signature.proofs.signature.field_sig.Goals as goal

pub returns-in_err-found-clause-fault : goal.returns-in_err-found-clause-fault
returns-in_err-found-clause-fault c =
    let p = err_from_is_err_and c.from_residual-in_err-found.result c.from_residual-in_err-found.ensures.1 in
    let lead = c.in_ok-lead.field-0 in
    let l = c.in_ok-lead.ensures.read in
    rw (p.1, p.2)
    (reach_fault Field lead 1 c.args.blob.now 1 Whole [] c.in_err-found.field-0.0 l.lead refl (reach_field c.args.blob.now lead l) (omega arith) c.in_err-found.ensures.fault)

pub returns-then-after-blob-clause-fault : goal.returns-then-after-blob-clause-fault
returns-then-after-blob-clause-fault c =
    let blob = c.args.blob.now in
    let lead = c.in_ok-lead.field-0 in
    let l = c.in_ok-lead.ensures.read in
    let found = c.in_ok-found.found in
    let r = reach_more Field lead 1 blob 1 c.in_ok-found.after Whole [] found (reach_field blob lead l) c.in_ok-found.ensures.read in
    reach_trailing Field lead 1 blob c.in_ok-found.after Whole (found ∷ []) l.lead refl r refl c.if-after-blob.true

pub returns-clause-read : goal.returns-clause-read
returns-clause-read c =
    let blob = c.args.blob.now in
    let lead = c.in_ok-lead.field-0 in
    let l = c.in_ok-lead.ensures.read in
    let found = c.in_ok-found.found in
    let r = reach_more Field lead 1 blob 1 c.in_ok-found.after Whole [] found (reach_field blob lead l) c.in_ok-found.ensures.read in
    let d = reach_all Field lead 1 blob c.in_ok-found.after Whole (found ∷ []) l.lead refl r refl c.if-after-blob.false in
    (record { lead = lead; types = d.types }, d.derives, d.read)
