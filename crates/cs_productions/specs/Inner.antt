-- What an operator, a call, a cast, a lambda or a pair of parentheses is made of: expressions with one level less.
use Rattle.std.specs.Prelude.{ℕ}
use Rattle.cs_token.specs.Placed.{Placed as Token}
use Rattle.cs_tree.specs.declared.forms.Block.{Block}
use Rattle.cs_productions.specs.declared.values.Measured.{Measured}
use Rattle.cs_productions.specs.declared.values.Lead.{Lead}
use Rattle.cs_productions.specs.declared.values.Part.{Part}
use Rattle.cs_grammar.specs.Grammar.{Grammar}

-- the expressions, what begins with `global` inside parentheses, the block of a lambda, how many blocks may be open in one
-- another from here on, and how many pairs of brackets a type may have
pub record Inner : Type 1 where
  pub forms : Part → Grammar Token Measured
  pub lead : Grammar Token Lead
  pub block : Grammar Token Block
  pub blocks : ℕ
  pub ranks : ℕ
