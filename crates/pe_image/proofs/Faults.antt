-- A file has one reading or one fault.
use Rattle.std.proofs.Common.{ℕ, ◌+◌, ◌*◌, ◌≤◌, List, length, Ok, Err, sym, subst, ap, arith}
use Rattle.dc_causes.specs.Answer.{IsSingle}
use Rattle.dc_causes.specs.Step.{Test}
use Rattle.dc_causes.proofs.Chain.{then_read}
use Rattle.dc_causes.proofs.Single.{ok_is, err_is, not_both, single-gives, single-test, single-reads, single-then, single-times}
use Rattle.pe_image.specs.declared.headers.Headers.{Headers}
use Rattle.pe_image.specs.declared.sections.Section.{Section}
use Rattle.pe_image.specs.declared.sections.Span.{Span}
use Rattle.pe_image.specs.Headers.{table_place}
use Rattle.pe_image.specs.declared.fault.ImageCause.TheVariants.{NotIlOnly}
use Rattle.pe_image.specs.Cli.{IsIlOnly, flags_place}
use Rattle.pe_image.specs.Within.{AreWithin}
use Rattle.pe_image.specs.Image.{wrong, ReadsHeaders, ReadsSections, ReadsCli, ReadsImage, IsImage}
use Rattle.pe_image.specs.Laws.{HasOneReading, HasNoFault, HasOneFault, RangesAreWithin, RestsAreWithin, MetadataIsWithin}
use Rattle.pe_image.proofs.Ranges.{range_at-within, range_from-within}
use Rattle.pe_image.proofs.Unique.{one_number, one_pe, one_section, one_cli}

single-image : (file : List ℕ) → IsSingle (ReadsImage file)
single-image file =
    single-then (ReadsHeaders file) _ headers (λ h _.
    single-then (ReadsSections file h) _ (sections h) (λ ss _.
    single-then (ReadsCli file h ss) _ (single-reads _ _ (one_cli file h ss)) (λ found _.
    single-then _ _ (single-test _ _) (λ _ _. single-gives (ss, found.1))))) where
      headers : IsSingle (ReadsHeaders file)
      headers =
          single-then _ _ (single-reads _ _ (one_number 4 file 0x3C)) (λ signature _.
          single-then _ _ (single-test _ _) (λ _ _. single-reads _ _ (one_pe file)))

      sections : (h : Headers) → IsSingle (ReadsSections file h)
      sections h = single-times _ _ (λ k. single-reads _ _ (one_section file (table_place h + 40 * k)))

pub one_image : HasOneReading
one_image file ss others m other a b =
    let same = ok_is (ss, m) (others, other) (single-image file (Ok (ss, m)) (Ok (others, other)) a b) in
    (ap (λ (p : List Section × Span). p.0) same, ap (λ (p : List Section × Span). p.1) same)

pub no_fault : HasNoFault
no_fault file ss m fault a b = not_both (ss, m) fault (single-image file (Ok (ss, m)) (Err fault) a b)

pub one_fault : HasOneFault
one_fault file fault other a b = err_is fault other (single-image file (Err fault) (Err other) a b)

-- the sections of an image have their raw bytes in its file, and its metadata is such bytes
within : (file : List ℕ) (ss : List Section) (m : Span) → IsImage file ss m → AreWithin file ss × (m.start + m.len ≤ length file)
within file ss m a =
    let h = then_read (ReadsHeaders file) _ (ss, m) a in
    let s = then_read (ReadsSections file h.0) _ (ss, m) h.2 in
    let c = then_read (ReadsCli file h.0 s.0) _ (ss, m) s.2 in
    let t = then_read (Test (IsIlOnly file c.0.0) (wrong NotIlOnly (flags_place c.0.0))) _ (ss, m) c.2 in
    let are : AreWithin file s.0 = λ k d lt. (s.1.1 k d (omega (arith, lt, s.1.0))).raw in
    let names = c.1.names in
    let range = (range_at-within file s.0 names.address names.size c.0.1 are names.range).0 in
    subst (λ (p : List Section × Span). AreWithin file p.0 × (p.1.start + p.1.len ≤ length file)) (sym (ok_is (ss, m) (s.0, c.0.1) t.2)) (are, range)

pub ranges_within : RangesAreWithin
ranges_within file ss m a rva len range e = (range_at-within file ss rva len range (within file ss m a).0 e).0

pub rests_within : RestsAreWithin
rests_within file ss m a rva range e = range_from-within file ss rva range (within file ss m a).0 e

pub metadata_within : MetadataIsWithin
metadata_within file ss m a = (within file ss m a).1
