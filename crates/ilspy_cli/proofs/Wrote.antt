-- What was written for a lone body means what the body means.
use Rattle.std.proofs.Common.{◌≡◌, ◌≤◌, ℕ, List, [], ◌∷◌, length, sym, subst, ◌∙◌}
use Rattle.cil_lone.specs.Cut.{Placed}
use Rattle.cil_lone.specs.Lone.{IsLone}
use Rattle.ilspy_body.specs.Flat.{flat_of}
use Rattle.ilspy_body.specs.Layout.{text_of}
use Rattle.ilspy_body.specs.Theorem.{LoneBodyMeansTheSame}
use Rattle.ilspy_cli.specs.declared.status.Status.{Status}
use Rattle.ilspy_cli.specs.declared.status.Status.TheVariants.{Done, Refused, ReadFault}
use Rattle.ilspy_cli.specs.declared.words.Request.TheVariants.{Body}
use Rattle.ilspy_cli.specs.Files.{Shelved, AreRead, HasGiven, files_of, given_for}
use Rattle.ilspy_cli.specs.Outcome.{written, refused, IsRequestDue, IsDue, usage, too_big, unread, of_files, Sunk, IsWritten, WroteTheSame, MeansTheSame}
use Rattle.ilspy_cli.proofs.OneRequest.{one_request}

-- the law of the crate below
abbrev pub TextMeansTheSame : Type 0
TextMeansTheSame = (file : List ℕ) (code : List Placed) → length file ≤ 64 → IsLone file code → LoneBodyMeansTheSame file (text_of (flat_of code))

refused_is_not_done : (status : Status) → status ≡ Refused → status ≡ Done → ⊥
refused_is_not_done status e f = let same : Refused ≡ Done = sym e ∙ f in cc

unread_is_not_done : (status : Status) → status ≡ ReadFault → status ≡ Done → ⊥
unread_is_not_done status e f = let same : ReadFault ≡ Done = sym e ∙ f in cc

module _ (law : TextMeansTheSame) where
  of_body : (shelf : Shelved) (name : List ℕ) (contents : List (List ℕ)) (status : Status) (text : List ℕ) (sink : Sunk) → AreRead shelf.files (files_of (Body name)) contents
      → HasGiven shelf (given_for (files_of (Body name)) contents) → IsRequestDue (Body name) contents status text → IsWritten sink text → status ≡ Done → WroteTheSame shelf name sink
  of_body shelf name [] status text sink read gave due w done = absurd read
  of_body shelf name (a ∷ b ∷ more) status text sink read gave due w done = absurd due
  of_body shelf name (file ∷ []) status text sink read gave (written code lone e x) w done = record {
    file = file;
    given = gave;
    is_file = read.0;
    text = text;
    adds = w.adds;
    same = subst (LoneBodyMeansTheSame file) (sym x) (law file code read.1 lone);
  }
  of_body shelf name (file ∷ []) status text sink read gave (refused fault is e x) w done = absurd (refused_is_not_done status e done)

  pub wrote_the_same : (shelf : Shelved) (words : List (List ℕ)) (status : Status) (text : List ℕ) (sink : Sunk) → IsDue shelf words status text → IsWritten sink text → MeansTheSame shelf words sink status
  wrote_the_same shelf words status text sink (usage a none n e x) w = λ done name asks. absurd (n (Body name) asks)
  wrote_the_same shelf words status text sink (too_big r file a asks next long e x) w = λ done name asks'. absurd (refused_is_not_done status e done)
  wrote_the_same shelf words status text sink (unread r file a asks next e x) w = λ done name asks'. absurd (unread_is_not_done status e done)
  wrote_the_same shelf words status text sink (of_files r contents a asks read gave due) w = λ done name asks'.
      let same = one_request words r (Body name) asks asks' in
      of_body shelf name contents status text sink
      (subst (λ r. AreRead shelf.files (files_of r) contents) same read) (subst (λ r. HasGiven shelf (given_for (files_of r) contents)) same gave) (subst (λ r. IsRequestDue r contents status text) same due) w done
