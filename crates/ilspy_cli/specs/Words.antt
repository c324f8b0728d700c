-- The words of the command line.
use Rattle.std.specs.Prelude.{◌≡◌, ℕ, true, List, [], ◌∷◌, Some, codes, map, fold}
use Rattle.clap.specs.Simple.{on_top}
use Rattle.clap.specs.Words.{App, Rule, Shape, fault_of, first_of, matches_of, new_app, new_rule, with_rule}
use Rattle.ilspy_cli.specs.declared.words.Command.{Command}
use Rattle.ilspy_cli.specs.declared.words.Command.TheVariants.{Body, Show}
use Rattle.ilspy_cli.specs.declared.words.Request.{Request}
use Rattle.ilspy_cli.specs.declared.words.Request.TheVariants as request

-- how a command is spelled
abbrev pub word_of : Command → List ℕ
word_of Body = codes "body"
word_of Show = codes "show"

-- its texts, as the usage names them
abbrev pub names_of : Command → List (List ℕ)
names_of Body = codes "FILE" ∷ []
names_of Show = codes "ASM" ∷ []

-- the command of a request
abbrev pub command_of : Request → Command
command_of (request.Body file) = Body
command_of (request.Show assembly) = Show

-- its texts, in the order of the words
abbrev pub texts_of : Request → List (List ℕ)
texts_of (request.Body file) = file ∷ []
texts_of (request.Show assembly) = assembly ∷ []

-- a text that is required
abbrev pub text_rule : List ℕ → Rule
text_rule name = record (new_rule name) { required = true }

abbrev pub without_help : Shape → Shape
without_help shape = record shape { disable_help_flag = true; disable_version_flag = true }

-- what `clap` reads for a command: its texts in this order, and neither help nor version
abbrev pub form_of : Command → App
form_of command =
    fold (λ form name. with_rule form (text_rule name)) (on_top without_help (new_app (word_of command))) (names_of command)

-- `clap` has no fault at the program's name and the words after the command, and matches these texts in them
abbrev pub AreMatched : Command → List (List ℕ) → List (List ℕ) → Type 0
AreMatched command words texts =
    (fault_of (form_of command) words ≡ [])
    × (map (λ name. first_of name (matches_of (form_of command) words)) (names_of command) ≡ map Some texts)

-- the second word is the request's command, and the others are its texts
abbrev pub AsksFor : List (List ℕ) → Request → Type 0
AsksFor (program ∷ word ∷ rest) request =
    (word ≡ word_of (command_of request)) × AreMatched (command_of request) (program ∷ rest) (texts_of request)
AsksFor _ request = ⊥
