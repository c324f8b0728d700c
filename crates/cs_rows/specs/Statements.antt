-- Rows of blocks (ECMA-334, clause 13).
use Rattle.std.specs.Prelude.{◌+◌, true, false, List, [], ◌∷◌, Some}
use Rattle.cs_token.specs.Placed.{Placed as Token}
use Rattle.cs_tree.specs.declared.forms.Form.TheVariants as form
use Rattle.cs_tree.specs.declared.forms.Action.TheVariants as action
use Rattle.cs_tree.specs.declared.forms.Block.{Block}
use Rattle.cs_tree.specs.declared.forms.Syntax.{Syntax}
use Rattle.cs_tree.specs.declared.forms.Syntax.TheVariants as syntax
use Rattle.cs_grammar.specs.Whole.{IsFault}
use Rattle.cs_productions.specs.Kinds.{brace, unbrace, paren, unparen, dot, colon, semicolon, equals, kw_int, kw_if, kw_else}
use Rattle.cs_statements.specs.Blocks.{block_at}
use Rattle.cs_rows.specs.Samples.{here, word, sign, keyword, a, b, named, tree_name, int_type}

-- within six levels, two pairs of brackets and two blocks: these tokens in braces are these statements
abbrev pub block_of : List Syntax → Block
block_of stmts = record { stmts = stmts; end = here }

abbrev pub Are : List Token → List Syntax → Type 0
Are ts stmts = (block_at 6 2 2).derives (sign brace ∷ ts) (block_of stmts) []

-- { int a = b; }
abbrev pub declared : List Token
declared = keyword kw_int ∷ word a ∷ sign equals ∷ word b ∷ sign semicolon ∷ sign unbrace ∷ []

abbrev pub Declared : Type 0
Declared = Are declared (syntax.Declare here (int_type 0) (tree_name a) (named b) ∷ [])

-- { a: ; a.b(); }
abbrev pub label_and_call : List Token
label_and_call = word a ∷ sign colon ∷ sign semicolon ∷ word a ∷ sign dot ∷ word b ∷ sign paren ∷ sign unparen ∷ sign semicolon ∷ sign unbrace ∷ []

abbrev pub LabelAndCall : Type 0
LabelAndCall = Are label_and_call
    (syntax.Label here a ∷ syntax.Act here (action.Invoke (form.Call here (named a) (tree_name b) [])) ∷ [])

-- { if (a) { } else { } }
abbrev pub if_else : List Token
if_else = keyword kw_if ∷ sign paren ∷ word a ∷ sign unparen ∷ sign brace ∷ sign unbrace ∷ keyword kw_else ∷ sign brace ∷ sign unbrace ∷ sign unbrace ∷ []

abbrev pub IfElse : Type 0
IfElse = Are if_else
    (syntax.If here (named a) (block_of []) (Some (block_of [])) ∷ [])

-- { a; } is nothing, from the semicolon on
abbrev pub no_statement : List Token
no_statement = sign brace ∷ word a ∷ sign semicolon ∷ sign unbrace ∷ []

abbrev pub NoStatement : Type 0
NoStatement = IsFault (block_at 6 2 2) (block_at (6 + 2) (2 + 1) (2 + 1)) no_statement false (sign semicolon ∷ sign unbrace ∷ [])

-- with one block, { if (a) { } } is too deep at the if
abbrev pub block_too_many : List Token
block_too_many = sign brace ∷ keyword kw_if ∷ sign paren ∷ word a ∷ sign unparen ∷ sign brace ∷ sign unbrace ∷ sign unbrace ∷ []

abbrev pub BlockTooMany : Type 0
BlockTooMany = IsFault (block_at 6 2 1) (block_at (6 + 2) (2 + 1) (1 + 1)) block_too_many true
    (keyword kw_if ∷ sign paren ∷ word a ∷ sign unparen ∷ sign brace ∷ sign unbrace ∷ sign unbrace ∷ [])

abbrev pub Blocks : Type 0
Blocks = Declared × LabelAndCall × IfElse × NoStatement × BlockTooMany
