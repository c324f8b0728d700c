-- Words in form ask for one thing.
use Rattle.std.proofs.Common.{◌≡◌, ℕ, List, [], ◌∷◌, Option, Some, None, codes, map, refl, sym, ap, ap₂, subst, ◌∙◌}
use Rattle.std.specs.Prelude.{if◌then◌else◌}
use Rattle.std.specs.Str.{bytes_eq}
use Rattle.ilspy_cli.specs.declared.words.Command.{Command}
use Rattle.ilspy_cli.specs.declared.words.Command.TheVariants.{Body, Show}
use Rattle.ilspy_cli.specs.declared.words.Request.{Request}
use Rattle.ilspy_cli.specs.declared.words.Request.TheVariants as request
use Rattle.ilspy_cli.specs.Words.{AreMatched, AsksFor, command_of, texts_of, word_of}

-- the command of a word
abbrev command_at : List ℕ → Option Command
command_at word =
    if bytes_eq word (codes "body") then Some Body
    else (if bytes_eq word (codes "show") then Some Show else None)

command_at_word : (command : Command) → command_at (word_of command) ≡ Some command
command_at_word Body = refl
command_at_word Show = refl

-- the request of a command and its texts
abbrev request_at : Command → List (List ℕ) → Option Request
request_at Body (file ∷ []) = Some (request.Body file)
request_at Show (assembly ∷ []) = Some (request.Show assembly)
request_at _ _ = None

request_at_texts : (r : Request) → request_at (command_of r) (texts_of r) ≡ Some r
request_at_texts (request.Body file) = refl
request_at_texts (request.Show assembly) = refl

-- no two commands have one spelling
pub one_command : (word : List ℕ) (c d : Command) → word ≡ word_of c → word ≡ word_of d → c ≡ d
one_command word c d p q =
    let e : Some c ≡ Some d = sym (command_at_word c) ∙ ap command_at (sym p ∙ q) ∙ command_at_word d in
    cc

-- lists of texts are the same where they are found in the same places
same_texts : (xs ys : List (List ℕ)) → map Some xs ≡ map Some ys → xs ≡ ys
same_texts [] [] e = refl
same_texts [] (y ∷ ys) e = cc
same_texts (x ∷ xs) [] e = cc
same_texts (x ∷ xs) (y ∷ ys) e =
    let head : x ≡ y = cc in
    let tail : map Some xs ≡ map Some ys = cc in
    ap₂ (λ a more. a ∷ more) head (same_texts xs ys tail)

one_matched : (c : Command) (words xs ys : List (List ℕ)) → AreMatched c words xs → AreMatched c words ys → xs ≡ ys
one_matched c words xs ys p q = same_texts xs ys (sym p.1 ∙ q.1)

pub one_request : (words : List (List ℕ)) (r s : Request) → AsksFor words r → AsksFor words s → r ≡ s
one_request [] r s p q = absurd p
one_request (x ∷ []) r s p q = absurd p
one_request (program ∷ word ∷ rest) r s p q =
    let same : command_of r ≡ command_of s = one_command word (command_of r) (command_of s) p.0 q.0 in
    let texts : texts_of r ≡ texts_of s =
    one_matched (command_of s) (program ∷ rest) (texts_of r) (texts_of s) (subst (λ c. AreMatched c (program ∷ rest) (texts_of r)) same p.1) q.1 in
    let e : Some r ≡ Some s = sym (request_at_texts r) ∙ ap₂ request_at same texts ∙ request_at_texts s in
    cc
