-- What is printed of a whole text is read back (ECMA-334, clauses 6 and 14 to 20).
use Rattle.std.specs.Prelude.{◌≡◌, ℕ, ◌+◌, ◌<◌, List, Result, Ok}
use Rattle.std.specs.Str.{chars}
use Rattle.cs_token.specs.Placed.{Placed as Token}
use Rattle.cs_tree.specs.declared.declarations.Unit.{Unit as WholeText}
use Rattle.cs_tree.specs.BareUnits.{bare_unit}
use Rattle.cs_grammar.specs.Grammar.{Grammar}
use Rattle.cs_units.specs.Declarations.{unit_at, inside}
use Rattle.cs_unit_layout.specs.Units.{unit_laid}
use Rattle.cs_roundtrip_units.specs.Units.{IsWellFormedUnit}
use Rattle.cs_roundtrip_texts.specs.Notes.{unit_notes, AreTexts}
use Rattle.cs_roundtrip_texts.specs.Laws.{bytes_of}
use Rattle.cs_read_texts.specs.declared.fault.ReadFault.{ReadFault}
use Rattle.cs_read_texts.specs.Texts.{IsAnswer}

-- the characters of what is printed
abbrev pub printed : WholeText → List ℕ
printed u = chars (bytes_of (unit_laid u))

-- what a text is by a grammar: the same text as this one but for its places and notes, and nothing else
pub record IsJust (g wide : Grammar Token WholeText) (u : WholeText) (text : List ℕ) : Type 0 where
  pub read : WholeText
  pub same : bare_unit read ≡ bare_unit u
  pub is : IsAnswer g wide text (Ok read)
  pub only : (r : Result WholeText ReadFault) → IsAnswer g wide text r → r ≡ Ok read

-- Within whatever depths it is well formed and its notes are in UTF-8.
abbrev pub PrintedTextsAreRead : Type 0
PrintedTextsAreRead =
    (levels ranks blocks nesting : ℕ) (u : WholeText) → 0 < ranks → 0 < blocks → IsWellFormedUnit levels ranks blocks nesting u → AreTexts (unit_notes u)
    → IsJust (unit_at (inside levels ranks blocks) nesting) (unit_at (inside (levels + 2) (ranks + 1) (blocks + 1)) (nesting + 1)) u (printed u)
