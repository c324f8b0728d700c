-- Tokens of the rows. All stand at one place, since places change nothing.
use Rattle.std.specs.Prelude.{ℕ, ◌-◌, List, codes}
use Rattle.cs_token.specs.Placed.{Placed as Token}
use Rattle.cs_token.specs.declared.lexeme.Lexeme.{Lexeme}
use Rattle.cs_token.specs.declared.lexeme.Lexeme.TheVariants.{Name, Keyword, Sign}
use Rattle.cs_tree.specs.declared.types.Spot.{Spot}
use Rattle.cs_tree.specs.declared.types.Name.{Name as TreeName}
use Rattle.cs_tree.specs.declared.types.TypeName.TheVariants as type_name
use Rattle.cs_tree.specs.declared.types.KeywordType.TheVariants.{Int}
use Rattle.cs_tree.specs.declared.types.TypeForm.{TypeForm}
use Rattle.cs_tree.specs.declared.forms.Form.{Form}
use Rattle.cs_tree.specs.declared.forms.Form.TheVariants as form

abbrev pub at : Lexeme → Token
at l = record { lexeme = l; line = 1; column = 1 }

abbrev pub here : Spot
here = record { line = 1; column = 1 }

-- a name, a sign and a keyword by its kind
abbrev pub word : List ℕ → Token
word text = at (Name text)

abbrev pub sign : ℕ → Token
sign kind = at (Sign (kind - 10))

abbrev pub keyword : ℕ → Token
keyword kind = at (Keyword (kind - 60))

abbrev pub a : List ℕ
a = codes "a"

abbrev pub b : List ℕ
b = codes "b"

abbrev pub c : List ℕ
c = codes "c"

abbrev pub d : List ℕ
d = codes "d"

abbrev pub e : List ℕ
e = codes "e"

abbrev pub global_word : List ℕ
global_word = codes "global"

-- what the name and the type are in a tree
abbrev pub named : List ℕ → Form
named text = form.Name here text

abbrev pub tree_name : List ℕ → TreeName
tree_name text = record { spot = here; text = text }

abbrev pub path_type : List (List ℕ) → TypeForm
path_type names = record { spot = here; name = type_name.Global names; ranks = 0 }

abbrev pub int_type : ℕ → TypeForm
int_type ranks = record { spot = here; name = type_name.Keyword Int; ranks = ranks }
