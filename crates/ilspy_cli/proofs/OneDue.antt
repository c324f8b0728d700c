-- Where files are told and no read failed, one status and one text are due.
use Rattle.std.proofs.Common.{◌≡◌, ℕ, List, [], ◌∷◌, Option, Some, sym, ap, ◌∙◌, subst}
use Rattle.cil_lone.specs.Laws.{HasOneCode, HasNoFault, HasOneFault}
use Rattle.pe_image.specs.Laws as image
use Rattle.cli_metadata.specs.Laws as metadata
use Rattle.dc_outside.specs.Outside.{Given, HasRisen}
use Rattle.ilspy_body.specs.Flat.{flat_of}
use Rattle.ilspy_body.specs.Layout.{text_of}
use Rattle.ilspy_cli.specs.declared.status.Status.{Status}
use Rattle.ilspy_cli.specs.declared.words.Request.{Request}
use Rattle.ilspy_cli.specs.declared.words.Request.TheVariants.{Body, Show}
use Rattle.ilspy_cli.specs.Lines.{too_big_line, fault_line}
use Rattle.ilspy_cli.specs.Files.{Shelved, AreRead, StopsAt, files_of, is_longer, shelved}
use Rattle.ilspy_cli.specs.Outcome.{IsBodyDue, written, refused, IsRequestDue, IsDue, usage, too_big, unread, of_files}
use Rattle.ilspy_cli.proofs.SameDue.{SameDue}
use Rattle.ilspy_cli.proofs.OneRequest.{one_request}
use Rattle.ilspy_cli.proofs.OneFiles.{one_contents, not_both, one_too_long}
use Rattle.ilspy_cli.proofs.OneShow.{one_of_show}

-- files are lone bodies and images in one way, and bytes are metadata in one way; else they have one fault
pub record Readings : Type 0 where
  pub one_code : HasOneCode
  pub no_fault : HasNoFault
  pub one_fault : HasOneFault
  pub one_image : image.HasOneReading
  pub no_image_fault : image.HasNoFault
  pub one_image_fault : image.HasOneFault
  pub one_content : metadata.HasOneContent
  pub no_metadata_fault : metadata.HasNoFault
  pub one_metadata_fault : metadata.HasOneFault

module _ (laws : Readings) where
  -- a file has one due text
  one_of_body : (file : List ℕ) (s s' : Status) (t t' : List ℕ) → IsBodyDue file s t → IsBodyDue file s' t' → SameDue s s' t t'
  one_of_body file s s' t t' (written c p e x) (written d q f y) =
      record { status = e ∙ sym f; text = x ∙ ap (λ code. text_of (flat_of code)) (laws.one_code file c d p q) ∙ sym y }
  one_of_body file s s' t t' (written c p e x) (refused d q f y) = absurd (laws.no_fault file c d p q)
  one_of_body file s s' t t' (refused c p e x) (written d q f y) = absurd (laws.no_fault file d c q p)
  one_of_body file s s' t t' (refused c p e x) (refused d q f y) =
      record { status = e ∙ sym f; text = x ∙ ap fault_line (laws.one_fault file c d p q) ∙ sym y }

  -- a request has one due text for the bytes of its files
  one_of_request : (r : Request) (contents : List (List ℕ)) (s s' : Status) (t t' : List ℕ) → IsRequestDue r contents s t → IsRequestDue r contents s' t' → SameDue s s' t t'
  one_of_request (Body name) (file ∷ []) s s' t t' p q = one_of_body file s s' t t' p q
  one_of_request (Show name) (assembly ∷ []) s s' t t' p q =
      one_of_show laws.one_image laws.no_image_fault laws.one_image_fault laws.one_content laws.no_metadata_fault laws.one_metadata_fault assembly s s' t t' p q
  one_of_request (Body name) [] s s' t t' p q = absurd p
  one_of_request (Body name) (a ∷ b ∷ more) s s' t t' p q = absurd p
  one_of_request (Show name) [] s s' t t' p q = absurd p
  one_of_request (Show name) (a ∷ b ∷ more) s s' t t' p q = absurd p

  module _ (files : List ℕ → Option (List ℕ)) (before now : ℕ) (last_before last_now : Option (List ℕ)) (given_before given_now given : List Given) (still : HasRisen before now → ⊥) (words : List (List ℕ)) where
    abbrev shelf : Shelved
    shelf = shelved (Some files) before now last_before last_now given_before given_now

    abbrev other_shelf : Shelved
    other_shelf = shelved (Some files) before now last_before last_now given_before given

    same_due : (s s' : Status) (t t' : List ℕ) → IsDue shelf words s t → IsDue other_shelf words s' t' → SameDue s s' t t'
    same_due s s' t t' (usage a none n e x) (usage b nothing m f y) = record { status = e ∙ sym f; text = x ∙ sym y }
    same_due s s' t t' (usage a none n e x) (too_big r file b asks next long f y) = absurd (n r asks)
    same_due s s' t t' (usage a none n e x) (unread r file b asks next f y) = absurd (n r asks)
    same_due s s' t t' (usage a none n e x) (of_files r contents b asks read gave due) = absurd (n r asks)
    same_due s s' t t' (too_big r file a asks next long e x) (usage b nothing m f y) = absurd (m r asks)
    same_due s s' t t' (too_big r file a asks next long e x) (too_big q other b asks' next' long' f y) =
        let same = one_request words r q asks asks' in
        let here : StopsAt shelf (files_of q) file (is_longer file) = subst (λ r. StopsAt shelf (files_of r) file (is_longer file)) same next in
        record { status = e ∙ sym f; text = x ∙ ap (λ w. too_big_line w.name) (one_too_long files (files_of q) file other here.next next'.next long long') ∙ sym y }
    same_due s s' t t' (too_big r file a asks next long e x) (of_files q contents b asks' read gave' due) =
        let same = one_request words r q asks asks' in
        absurd (not_both files (files_of q) file contents (subst (λ r. StopsAt shelf (files_of r) file (is_longer file)) same next).next long read)
    same_due s s' t t' (of_files r contents a asks read gave due) (usage b nothing m f y) = absurd (m r asks)
    same_due s s' t t' (of_files r contents a asks read gave due) (too_big q other b asks' next' long' f y) =
        let same = one_request words q r asks' asks in
        absurd (not_both files (files_of r) other contents (subst (λ r. StopsAt other_shelf (files_of r) other (is_longer other)) same next').next long' read)
    same_due s s' t t' (of_files r contents a asks read gave due) (of_files q others b asks' read' gave' due') =
        let same = one_request words r q asks asks' in
        let here : AreRead (Some files) (files_of q) contents = subst (λ r. AreRead (Some files) (files_of r) contents) same read in
        let all = one_contents files (files_of q) contents others here read' in
        one_of_request q others s s' t t' (subst (λ c. IsRequestDue q c s t) all (subst (λ r. IsRequestDue r contents s t) same due)) due'
    same_due s s' t t' (unread r file a asks next e x) q = absurd (still a.risen)
    same_due s s' t t' (too_big r file a asks next long e x) (unread q other b asks' next' f y) = absurd (still b.risen)
    same_due s s' t t' (of_files r contents a asks read gave due) (unread q other b asks' next' f y) = absurd (still b.risen)

  -- one status and one text are due, whatever the shelf gave
  pub one_due : (shelf : Shelved) (files : List ℕ → Option (List ℕ)) → shelf.files ≡ Some files → (HasRisen shelf.before shelf.now → ⊥) → (given : List Given)
      (words : List (List ℕ)) (s s' : Status) (t t' : List ℕ) → IsDue shelf words s t → IsDue (record shelf { given_now = given }) words s' t' → SameDue s s' t t'
  one_due over files told still given words s s' t t' p q =
      same_due files over.before over.now over.last_before over.last_now over.given_before over.given_now given still words s s' t t'
      (subst (λ f. IsDue (shelved f over.before over.now over.last_before over.last_now over.given_before over.given_now) words s t) told p)
      (subst (λ f. IsDue (shelved f over.before over.now over.last_before over.last_now over.given_before given) words s' t') told q)
