-- What a text is read as (ECMA-334, 6.3, 6.4 and 14.2): a tree, or its first fault. At a place where no token stands, that is the fault;
-- at a token with which no text of the grammar goes on, that is.
use Rattle.std.specs.Prelude.{◌≡◌, ℕ, ◌+◌, ◌<◌, Bool, true, false, List, [], ◌∷◌, Result, Ok, Err}
use Rattle.dc_base.specs.declared.failure.Or.{Or}
use Rattle.dc_base.specs.declared.failure.Or.TheVariants.{NoMemory, Fault as WithFault}
use Rattle.cs_token.specs.Placed.{Placed as Token}
use Rattle.cs_token.specs.Cuts.{place, place_of, AreTokens, AreTokensUpTo}
use Rattle.cs_tree.specs.declared.declarations.Unit.{Unit as WholeText}
use Rattle.cs_grammar.specs.Grammar.{Grammar}
use Rattle.cs_grammar.specs.Whole.{Viable, IsFault}
use Rattle.cs_units.specs.Declarations.{unit_at, inside}
use Rattle.cs_references.specs.Declarations.{text_at}
use Rattle.cs_read_calls.specs.declared.level.Depth.{Depth}
use Rattle.cs_read_texts.specs.declared.fault.ReadFault.{ReadFault}
use Rattle.cs_read_texts.specs.declared.fault.ReadFault.TheVariants.{Lex, Parse, Deep}

-- the text is this tree's
pub record IsText (g : Grammar Token WholeText) (text : List ℕ) (unit : WholeText) : Type 0 where
  pub tokens : List Token
  pub cut : AreTokens text tokens
  pub derived : g.derives tokens unit []

-- No token stands at this place, which isn't the text's end, and texts of the grammar go on behind the tokens before it.
pub record HasNoToken (g : Grammar Token WholeText) (text : List ℕ) (at : ℕ × ℕ) : Type 0 where
  pub tokens : List Token
  pub rest : List ℕ
  pub cut : AreTokensUpTo text tokens rest
  pub more : rest ≡ [] → ⊥
  pub goes_on : Viable g tokens
  pub placed : at ≡ place_of text rest

-- where the tokens from a fault on begin: at the next one, or at the text's end
abbrev pub Begins : List ℕ → List ℕ → List Token → ℕ × ℕ → Type 0
Begins text rest [] at = (rest ≡ []) × (at ≡ place_of text rest)
Begins text rest (next ∷ left) at = at ≡ place next

-- No text of the grammar goes on with the token at this place, or none ends at the text's end. It is too deep where texts of the wide
-- one go on with it.
pub record HasNoTree (g wide : Grammar Token WholeText) (text : List ℕ) (deep : Bool) (at : ℕ × ℕ) : Type 0 where
  pub tokens : List Token
  pub rest : List ℕ
  pub left : List Token
  pub cut : AreTokensUpTo text tokens rest
  pub fault : IsFault g wide tokens deep left
  pub placed : Begins text rest left at

-- what a text is
abbrev pub IsAnswer : Grammar Token WholeText → Grammar Token WholeText → List ℕ → Result WholeText ReadFault → Type 0
IsAnswer g wide text (Ok unit) = IsText g text unit
IsAnswer g wide text (Err (Lex line column)) = HasNoToken g text (line, column)
IsAnswer g wide text (Err (Parse line column)) = HasNoTree g wide text false (line, column)
IsAnswer g wide text (Err (Deep line column)) = HasNoTree g wide text true (line, column)

-- what a function answers that reads a text; want of memory is free
abbrev pub IsRead : Grammar Token WholeText → Grammar Token WholeText → List ℕ → Result WholeText (Or ReadFault) → Type 0
IsRead g wide text (Ok unit) = IsAnswer g wide text (Ok unit)
IsRead g wide text (Err (WithFault fault)) = IsAnswer g wide text (Err fault)
IsRead g wide text (Err NoMemory) = Unit {0}

-- whole texts within these depths, and with more of each
abbrev pub within : Depth → ℕ → Grammar Token WholeText
within d nesting = unit_at (inside d.levels d.ranks d.blocks) nesting

abbrev pub beyond : Depth → ℕ → Grammar Token WholeText
beyond d nesting = unit_at (inside (d.levels + 2) (d.ranks + 1) (d.blocks + 1)) (nesting + 1)

-- a text has one answer
abbrev pub HasOneText : Type 0
HasOneText =
    (levels ranks blocks nesting : ℕ) → 0 < ranks → 0 < blocks → (text : List ℕ) (r s : Result WholeText ReadFault)
    → IsAnswer (unit_at (inside levels ranks blocks) nesting) (unit_at (inside (levels + 2) (ranks + 1) (blocks + 1)) (nesting + 1)) text r
    → IsAnswer (unit_at (inside levels ranks blocks) nesting) (unit_at (inside (levels + 2) (ranks + 1) (blocks + 1)) (nesting + 1)) text s → r ≡ s

-- so has a reference text
abbrev pub HasOneReference : Type 0
HasOneReference =
    (limit nesting : ℕ) → (text : List ℕ) (r s : Result WholeText ReadFault)
    → IsAnswer (text_at limit nesting) (text_at (limit + 1) (nesting + 1)) text r
    → IsAnswer (text_at limit nesting) (text_at (limit + 1) (nesting + 1)) text s → r ≡ s
