-- Names, literals, paths, types and parameters that can be written (ECMA-334, 6.4, 7.8, 8 and 15.6.2).
use Rattle.std.specs.Prelude.{ℕ, ◌≤◌, List, [], ◌∷◌, All}
use Rattle.cs_token.specs.declared.lexeme.Lexeme.TheVariants as lexeme
use Rattle.cs_written.specs.Spelled.{IsSpellable}
use Rattle.cs_tree.specs.declared.types.TypeName.{TypeName}
use Rattle.cs_tree.specs.declared.types.TypeName.TheVariants as type_name
use Rattle.cs_tree.specs.declared.types.TypeForm.{TypeForm}
use Rattle.cs_tree.specs.declared.types.Param.{Param}
use Rattle.cs_tree.specs.declared.forms.Literal.{Literal}
use Rattle.cs_tree.specs.declared.forms.Literal.TheVariants as literal
use Rattle.cs_tree.specs.declared.forms.SwitchLabel.{SwitchLabel}
use Rattle.cs_tree.specs.declared.forms.SwitchLabel.TheVariants as label

-- a legal name (6.4.3)
abbrev pub IsName : List ℕ → Type 0
IsName text = IsSpellable (lexeme.Name text)

-- a number below 2^64, a character that is one unit, a text of units (6.4.5)
abbrev pub IsLiteral : Literal → Type 0
IsLiteral (literal.Number n s) = IsSpellable (lexeme.Number n s)
IsLiteral (literal.Char unit) = IsSpellable (lexeme.Char unit)
IsLiteral (literal.Text units) = IsSpellable (lexeme.Literal units)
IsLiteral (literal.Bool b) = Unit {0}
IsLiteral literal.Null = Unit {0}

-- legal names, one at least (7.8)
abbrev pub IsPath : List (List ℕ) → Type 0
IsPath [] = ⊥
IsPath (text ∷ texts) = IsName text × All IsName texts

abbrev pub IsTypeName : TypeName → Type 0
IsTypeName (type_name.Keyword k) = Unit {0}
IsTypeName (type_name.Global texts) = IsPath texts

-- a type with at most so many pairs of brackets
abbrev pub IsType : ℕ → TypeForm → Type 0
IsType limit t = IsTypeName t.name × (t.ranks ≤ limit)

abbrev pub IsParam : ℕ → Param → Type 0
IsParam limit p = IsType limit p.ty × IsName p.name.text

-- a label of a switch section (13.8.3)
abbrev pub IsLabel : SwitchLabel → Type 0
IsLabel (label.Case s l) = IsLiteral l
IsLabel (label.Default s) = Unit {0}

-- one at least
abbrev pub AreLabels : List SwitchLabel → Type 0
AreLabels [] = ⊥
AreLabels (l ∷ ls) = IsLabel l × All IsLabel ls
