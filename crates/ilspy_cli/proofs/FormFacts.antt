-- What a parse by a command's form tells.
use Rattle.std.proofs.Common.{◌≡◌, ◌≤◌, ◌∙◌, inl, inr, ℕ, arith, true, List, [], ◌∷◌, drop, get_or, length, map, Some, refl, sym, ap, subst}
use Rattle.clap.specs.Walk.{Row, first_of, rows_of}
use Rattle.clap.specs.Matches.{found_of}
use Rattle.clap.specs.Words.{HasMatchesOf, app_of, fault_of, is_simple, is_simple_and_free, matches_of, HasKind, kind_of}
use Rattle.clap.specs.declared.builder.command.Command.{Command as Form}
use Rattle.clap.specs.declared.error.Error.{Error}
use Rattle.clap.specs.declared.error.kind.ErrorKind.TheVariants as kind
use Rattle.clap.specs.declared.parser.matches.ArgMatches.{ArgMatches}
use Rattle.ilspy_cli.specs.declared.words.Command.{Command}
use Rattle.ilspy_cli.specs.declared.words.Command.TheVariants.{Body, Show}
use Rattle.ilspy_cli.specs.declared.words.Request.{Request}
use Rattle.ilspy_cli.specs.Words.{AreMatched, AsksFor, command_of, form_of, names_of, texts_of, word_of}
use Rattle.ilspy_cli.proofs.Lists.{map_both}
use Rattle.ilspy_cli.proofs.OneRequest.{one_command}

-- `clap` has functions for the forms
form_is_simple : (command : Command) → is_simple (form_of command) ≡ true
form_is_simple Body = refl
form_is_simple Show = refl

form_is_free : (command : Command) → is_simple_and_free (form_of command) ≡ true
form_is_free Body = refl
form_is_free Show = refl

-- a parse that gave matches has no fault, and gives the matches of `clap`'s function
pub parse_tells : (command : Command) (form : Form) (words : List (List ℕ)) (m : ArgMatches) → app_of form ≡ form_of command
    → (is_simple_and_free (app_of form) ≡ true → fault_of (app_of form) words ≡ []) → HasMatchesOf (app_of form) words m
    → (fault_of (form_of command) words ≡ []) × (rows_of (found_of m) ≡ matches_of (form_of command) words)
parse_tells command form words m e faultless matches =
    let free : is_simple_and_free (app_of form) ≡ true = ap is_simple_and_free e ∙ form_is_free command in
    let simple : is_simple (app_of form) ≡ true = ap is_simple e ∙ form_is_simple command in
    let rows : rows_of (found_of m) ≡ matches_of (app_of form) words = (matches simple).0 in
    (ap (λ a. fault_of a words) (sym e) ∙ faultless free, rows ∙ ap (λ a. matches_of a words) e)

-- the texts that the matches have for a command's names are its texts
pub matched : {N : Type 0} (now : N → List ℕ) (names : List N) (command : Command) (words : List (List ℕ)) (rows : List Row) → fault_of (form_of command) words ≡ []
    → rows ≡ matches_of (form_of command) words → map now names ≡ names_of command → (texts : List (List ℕ))
    → map (λ name. first_of (now name) rows) names ≡ map Some texts → AreMatched command words texts
matched now names command words rows none e n texts found = (
  none,
  ap (λ r. map (λ name. first_of name r) (names_of command)) (sym e) ∙ ap (map (λ name. first_of name rows)) (sym n)
      ∙ map_both now (λ name. first_of name rows) names ∙ found,
)

-- and its texts are those that the matches have
pub found : {N : Type 0} (now : N → List ℕ) (names : List N) (command : Command) (words : List (List ℕ)) (rows : List Row)
    → rows ≡ matches_of (form_of command) words → map now names ≡ names_of command → (texts : List (List ℕ))
    → AreMatched command words texts → map (λ name. first_of (now name) rows) names ≡ map Some texts
found now names command words rows e n texts are =
    sym (map_both now (λ name. first_of name rows) names) ∙ ap (map (λ name. first_of name rows)) n
    ∙ ap (λ r. map (λ name. first_of name r) (names_of command)) e ∙ are.1

-- where the parse failed for another cause than memory, no texts are matched
pub none_matched : (command : Command) (form : Form) (words texts : List (List ℕ)) (e : Error) → app_of form ≡ form_of command
    → (is_simple_and_free (app_of form) ≡ true → HasKind (fault_of (app_of form) words) e) → (kind_of e ≡ kind.OutOfMemory → ⊥) → AreMatched command words texts → ⊥
none_matched command form words texts e same fails other are =
    let free : is_simple_and_free (app_of form) ≡ true = ap is_simple_and_free same ∙ form_is_free command in
    let none : fault_of (app_of form) words ≡ [] = ap (λ a. fault_of a words) same ∙ are.0 in
    elim (subst (λ kinds. HasKind kinds e) none (fails free)) [ inl same ↦ other same | inr among ↦ absurd among ]

-- where the words behind the command are no texts of it, nothing is asked for
pub asks_for_none : (words texts : List (List ℕ)) (program word : List ℕ) (command : Command) → program ≡ get_or words 0 program → word ≡ get_or words 1 word
    → word ≡ word_of command → texts ≡ program ∷ drop 2 words → ((found : List (List ℕ)) → AreMatched command texts found → ⊥)
    → (request : Request) → AsksFor words request → ⊥
asks_for_none [] texts program word command p w e t none request h = h
asks_for_none (x ∷ []) texts program word command p w e t none request h = h
asks_for_none (x ∷ y ∷ rest) texts program word command p w e t none request h =
    let same : command_of request ≡ command = one_command y (command_of request) command h.0 (sym w ∙ e) in
    let all : x ∷ rest ≡ texts = ap (λ z. z ∷ rest) (sym p) ∙ sym t in
    none (texts_of request) (subst (λ ws. AreMatched command ws (texts_of request)) all (subst (λ k. AreMatched k (x ∷ rest) (texts_of request)) same h.1))

-- where they are its texts, the request of these is asked for
pub asks_for : (words texts found : List (List ℕ)) (program word : List ℕ) (command : Command) (request : Request) → 2 ≤ length words
    → program ≡ get_or words 0 program → word ≡ get_or words 1 word → word ≡ word_of command → texts ≡ program ∷ drop 2 words
    → AreMatched command texts found → command_of request ≡ command → texts_of request ≡ found → AsksFor words request
asks_for [] texts found program word command request le p w e t matched c f = absurd (omega (arith, le))
asks_for (x ∷ []) texts found program word command request le p w e t matched c f = absurd (omega (arith, le))
asks_for (x ∷ y ∷ rest) texts found program word command request le p w e t matched c f =
    let all : texts ≡ x ∷ rest = t ∙ ap (λ z. z ∷ rest) p in
    let here : AreMatched command (x ∷ rest) (texts_of request) = subst (AreMatched command (x ∷ rest)) (sym f) (subst (λ ws. AreMatched command ws found) all matched) in
    (sym w ∙ e ∙ ap word_of (sym c), subst (λ k. AreMatched k (x ∷ rest) (texts_of request)) (sym c) here)
