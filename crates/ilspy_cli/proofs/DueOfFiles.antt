-- What is due for the files of a request is due for its words.
use Rattle.std.proofs.Common.{◌≡◌, ℕ, List, [], ◌∷◌, map, get_or, ap, sym, ◌∙◌, subst}
use Rattle.ilspy_cli.specs.declared.status.Status.{Status}
use Rattle.ilspy_cli.specs.declared.taking.Untaken.{Untaken}
use Rattle.ilspy_cli.specs.declared.taking.Untaken.TheVariants.{TooBig, Unread}
use Rattle.ilspy_cli.specs.declared.words.Request.{Request}
use Rattle.ilspy_cli.specs.declared.words.Request.TheVariants.{Show}
use Rattle.ilspy_cli.specs.Show.{IsShowDue}
use Rattle.ilspy_cli.specs.Lines.{cannot_read_line, too_big_line}
use Rattle.ilspy_cli.specs.Words.{AsksFor}
use Rattle.ilspy_cli.specs.Files.{Wanted, AreRead, AreWithin, HasGiven, HasNotFailed, Shelved, StopsAt, files_of, given_for, is_longer}
use Rattle.ilspy_cli.specs.Taking.{IsUntaken, IsUntakenDue}
use Rattle.ilspy_cli.specs.Outcome.{IsDue, IsRequestDue, too_big, unread, of_files}

pub due_of_files : (shelf : Shelved) (words : List (List ℕ)) (request : Request) (all : List Wanted) (contents others : List (List ℕ)) (status : Status) (text : List ℕ)
    → AsksFor words request → all ≡ files_of request → others ≡ contents → HasNotFailed shelf × AreRead shelf.files all contents × HasGiven shelf (given_for all contents)
    → IsRequestDue request others status text → IsDue shelf words status text
due_of_files shelf words request all contents others status text asks files same taken due =
    of_files request contents taken.0 asks (subst (λ a. AreRead shelf.files a contents) files taken.1) (subst (λ a. HasGiven shelf (given_for a contents)) files taken.2) (subst (λ c. IsRequestDue request c status text) same due)

pub due_of_untaken : (shelf : Shelved) (words : List (List ℕ)) (request : Request) (all : List Wanted) (untaken : Untaken) (status : Status) (text : List ℕ)
    → AsksFor words request → all ≡ files_of request → IsUntaken shelf all untaken → IsUntakenDue untaken status text → IsDue shelf words status text
due_of_untaken shelf words request all (TooBig name) status text asks files is due =
    too_big request is.0 is.3 asks (subst (λ a. StopsAt shelf a is.0 (is_longer is.0)) files is.2) is.4 due.0 (due.1 ∙ ap too_big_line (sym is.1))
due_of_untaken shelf words request all (Unread name) status text asks files is due =
    unread request is.0 is.3 asks (subst (λ a. StopsAt shelf a is.0 []) files is.2) due.0 (due.1 ∙ ap cannot_read_line (sym is.1))

-- what is due for the one file is due for the request
pub due_of_show : {V : Type 0} (g : V → List ℕ) (name : List ℕ) (vs : List V) (v : V) (status : Status) (text : List ℕ)
    → AreWithin (files_of (Show name)) (map g vs) → v ≡ get_or vs 0 v → IsShowDue (g v) status text → IsRequestDue (Show name) (map g vs) status text
due_of_show g name [] v status text within is due = absurd within
due_of_show g name (a ∷ []) v status text within is due = subst (λ f. IsShowDue (g f) status text) is due
due_of_show g name (a ∷ b ∷ more) v status text within is due = absurd within.2
