-- A file that is to be shown has one due text.
use Rattle.std.proofs.Common.{◌≡◌, inl, inr, ℕ, List, Option, Some, None, Ok, Err, refl, sym, ap, ◌∙◌, subst, arith}
use Rattle.std.specs.Prelude.{IsUtf8}
use Rattle.cli_metadata.specs.Laws as metadata
use Rattle.pe_image.specs.Laws.{HasOneReading, HasNoFault, HasOneFault}
use Rattle.pe_image.specs.declared.sections.Section.{Section}
use Rattle.pe_image.specs.declared.sections.Span.{Span}
use Rattle.pe_image.specs.Sections.{bytes_in}
use Rattle.pe_image.specs.Image.{IsImage}
use Rattle.cli_metadata.specs.declared.fault.MetaFault.{MetaFault}
use Rattle.cli_metadata.specs.declared.fault.MetaCause.{MetaCause}
use Rattle.cli_metadata.specs.declared.fault.MetaCause.TheVariants.{BadRoot, BadStream, BadHeader, UnknownTable, Truncated, BadIndex, BadText, BadBlob}
use Rattle.cli_metadata.specs.Metadata.{Contents, IsString, IsNoString, up_to_zero}
use Rattle.cli_metadata.specs.Standing.{IsStanding}
use Rattle.cli_metadata.specs.Wrong.{IsWrong}
use Rattle.ilspy_cli.specs.declared.status.Status.{Status}
use Rattle.ilspy_cli.specs.Lines.{bad_image_line, bad_metadata_line, bad_name_line}
use Rattle.ilspy_cli.specs.Show.{HasContents, HasBadMetadata, IsAssemblyName, HasNoName, name_index, written_name, show_text, IsShown, IsNotShown, bad_image, bad_metadata, bad_name, IsShowDue, shown, not_shown}
use Rattle.ilspy_cli.proofs.SameDue.{SameDue}

-- the bytes up to a zero are one text
one_text : (heap : List ℕ) (i : ℕ) (a b : List ℕ) → up_to_zero heap i ≡ Some a → up_to_zero heap i ≡ Some b → a ≡ b
one_text heap i a b p q =
    let e : Some a ≡ Some b = sym p ∙ q in
    cc

-- a place of a heap has one text
one_string : (heap : List ℕ) (i : ℕ) (a b : List ℕ) → IsString heap i a → IsString heap i b → a ≡ b
one_string heap i a b p q =
    let e : Some a ≡ Some b = sym p.1 ∙ q.1 in
    cc

-- or none
not_both_strings : (heap : List ℕ) (i : ℕ) (a : List ℕ) (cause : MetaCause) → IsString heap i a → IsNoString heap i cause → ⊥
not_both_strings heap i a BadIndex p q = omega (arith, p.0)
not_both_strings heap i a BadText p q = elim q.1 [
  | inl none ↦ (let e : Some a ≡ None = sym p.1 ∙ none in cc)
  | inr bad ↦ bad.2 (subst IsUtf8 (one_text heap i a bad.0 p.1 bad.1) p.2)
]
not_both_strings heap i a BadRoot p q = absurd q
not_both_strings heap i a BadStream p q = absurd q
not_both_strings heap i a BadHeader p q = absurd q
not_both_strings heap i a UnknownTable p q = absurd q
not_both_strings heap i a Truncated p q = absurd q
not_both_strings heap i a BadBlob p q = absurd q

-- for one cause
one_cause : (heap : List ℕ) (i : ℕ) (c d : MetaCause) → IsNoString heap i c → IsNoString heap i d → c ≡ d
one_cause heap i BadIndex BadIndex p q = refl
one_cause heap i BadIndex BadText p q = absurd (omega (arith, p, q.0))
one_cause heap i BadText BadIndex p q = absurd (omega (arith, q, p.0))
one_cause heap i BadText BadText p q = refl
one_cause heap i BadIndex BadRoot p q = absurd q
one_cause heap i BadIndex BadStream p q = absurd q
one_cause heap i BadIndex BadHeader p q = absurd q
one_cause heap i BadIndex UnknownTable p q = absurd q
one_cause heap i BadIndex Truncated p q = absurd q
one_cause heap i BadIndex BadBlob p q = absurd q
one_cause heap i BadText BadRoot p q = absurd q
one_cause heap i BadText BadStream p q = absurd q
one_cause heap i BadText BadHeader p q = absurd q
one_cause heap i BadText UnknownTable p q = absurd q
one_cause heap i BadText Truncated p q = absurd q
one_cause heap i BadText BadBlob p q = absurd q
one_cause heap i BadRoot d p q = absurd p
one_cause heap i BadStream d p q = absurd p
one_cause heap i BadHeader d p q = absurd p
one_cause heap i UnknownTable d p q = absurd p
one_cause heap i Truncated d p q = absurd p
one_cause heap i BadBlob d p q = absurd p

-- an assembly has one name
one_assembly_name : (contents : Contents) (a b : Option (List ℕ)) → IsAssemblyName contents a → IsAssemblyName contents b → a ≡ b
one_assembly_name contents None None p q = refl
one_assembly_name contents None (Some b) p q = absurd (q.0 p)
one_assembly_name contents (Some a) None p q = absurd (p.0 q)
one_assembly_name contents (Some a) (Some b) p q = ap Some (one_string contents.strings (name_index contents) a b p.1 q.1)

no_name : (contents : Contents) (a : Option (List ℕ)) (cause : MetaCause) → IsAssemblyName contents a → HasNoName contents cause → ⊥
no_name contents None cause p q = q.row p
no_name contents (Some a) cause p q = not_both_strings contents.strings (name_index contents) a cause p.1 q.none

module _ (one_image : HasOneReading) (no_fault : HasNoFault) (one_fault : HasOneFault)
    (one-content : metadata.HasOneContent) (no-metadata-fault : metadata.HasNoFault) (one-metadata-fault : metadata.HasOneFault) where
  -- an image has one metadata
  one_metadata : (file : List ℕ) (s t : List Section) (m n : Span) → IsImage file s m → IsImage file t n → bytes_in file m ≡ bytes_in file n
  one_metadata file s t m n p q = ap (bytes_in file) (one_image file s t m n p q).1

  -- and one content
  one_contents : (file : List ℕ) (a b : Contents) → HasContents file a → HasContents file b → a ≡ b
  one_contents file a b p q =
      let same = one_metadata file p.sections q.sections p.metadata q.metadata p.image q.image in
      one-content (bytes_in file q.metadata) a b (subst (λ bytes. IsStanding bytes a) same p.stands) q.stands

  one_bad : (file : List ℕ) (e f : MetaFault) → HasBadMetadata file e → HasBadMetadata file f → e ≡ f
  one_bad file e f p q =
      let same = one_metadata file p.sections q.sections p.metadata q.metadata p.image q.image in
      one-metadata-fault (bytes_in file q.metadata) e f (subst (λ bytes. IsWrong bytes e.place e.cause) same p.wrong) q.wrong

  not_good_and_bad : (file : List ℕ) (a : Contents) (e : MetaFault) → HasContents file a → HasBadMetadata file e → ⊥
  not_good_and_bad file a e p q =
      let same = one_metadata file p.sections q.sections p.metadata q.metadata p.image q.image in
      no-metadata-fault (bytes_in file q.metadata) a e (subst (λ bytes. IsStanding bytes a) same p.stands) q.wrong

  shown_once : (file t t' : List ℕ) → IsShown file t → IsShown file t' → t ≡ t'
  shown_once file t t' p q =
      let same = one_contents file p.contents q.contents p.has q.has in
      let name = one_assembly_name q.contents p.name q.name (subst (λ c. IsAssemblyName c p.name) same p.is_name) q.is_name in
      p.due ∙ ap (λ c. show_text c (written_name p.name)) same ∙ ap (λ n. show_text q.contents (written_name n)) name ∙ sym q.due

  not_shown_too : (file t t' : List ℕ) → IsShown file t → IsNotShown file t' → ⊥
  not_shown_too file t t' p (bad_image fault is e) = no_fault file p.has.sections p.has.metadata fault p.has.image is
  not_shown_too file t t' p (bad_metadata fault has e) = not_good_and_bad file p.contents fault p.has has
  not_shown_too file t t' p (bad_name contents cause has none e) =
      no_name contents p.name cause (subst (λ c. IsAssemblyName c p.name) (one_contents file p.contents contents p.has has) p.is_name) none

  not_shown_once : (file t t' : List ℕ) → IsNotShown file t → IsNotShown file t' → t ≡ t'
  not_shown_once file t t' (bad_image f p e) (bad_image g q h) = e ∙ ap bad_image_line (one_fault file f g p q) ∙ sym h
  not_shown_once file t t' (bad_image f p e) (bad_metadata g q h) = absurd (no_fault file q.sections q.metadata f q.image p)
  not_shown_once file t t' (bad_image f p e) (bad_name c k q n h) = absurd (no_fault file q.sections q.metadata f q.image p)
  not_shown_once file t t' (bad_metadata f p e) (bad_image g q h) = absurd (no_fault file p.sections p.metadata g p.image q)
  not_shown_once file t t' (bad_metadata f p e) (bad_metadata g q h) = e ∙ ap bad_metadata_line (one_bad file f g p q) ∙ sym h
  not_shown_once file t t' (bad_metadata f p e) (bad_name c k q n h) = absurd (not_good_and_bad file c f q p)
  not_shown_once file t t' (bad_name c k p n e) (bad_image g q h) = absurd (no_fault file p.sections p.metadata g p.image q)
  not_shown_once file t t' (bad_name c k p n e) (bad_metadata g q h) = absurd (not_good_and_bad file c g p q)
  not_shown_once file t t' (bad_name c k p n e) (bad_name d l q m h) =
      let same = one_contents file c d p q in
      let none : IsNoString d.strings (name_index d) k = subst (λ x. IsNoString x.strings (name_index x) k) same n.none in
      e ∙ ap bad_name_line (one_cause d.strings (name_index d) k l none m.none) ∙ sym h

  pub one_of_show : (file : List ℕ) (s s' : Status) (t t' : List ℕ) → IsShowDue file s t → IsShowDue file s' t' → SameDue s s' t t'
  one_of_show file s s' t t' (shown p e) (shown q f) = record { status = e ∙ sym f; text = shown_once file t t' p q }
  one_of_show file s s' t t' (shown p e) (not_shown q f) = absurd (not_shown_too file t t' p q)
  one_of_show file s s' t t' (not_shown p e) (shown q f) = absurd (not_shown_too file t' t q p)
  one_of_show file s s' t t' (not_shown p e) (not_shown q f) = record { status = e ∙ sym f; text = not_shown_once file t t' p q }
