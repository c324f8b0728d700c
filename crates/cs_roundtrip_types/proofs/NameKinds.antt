-- Kinds of the tokens that trees are printed as.
use Rattle.std.proofs.Common.{◌≡◌, ℕ, Bool, true, false, cond, List, refl, codes}
use Rattle.std.specs.Str.{bytes_eq}
use Rattle.cs_token.specs.Tokens.{kind_of_name}
use Rattle.cs_grammar.specs.Kinds.{has}
use Rattle.cs_productions.specs.Kinds.{names}

-- a name is one
pub name_kind : (text : List ℕ) → has names (kind_of_name text) ≡ true
name_kind text = go (bytes_eq text (codes "global")) (bytes_eq text (codes "get")) (bytes_eq text (codes "set")) (bytes_eq text (codes "indexer"))
  where
    go : (a b c d : Bool) → has names (cond a 4 (cond b 5 (cond c 6 (cond d 7 0)))) ≡ true
    go true b c d = refl
    go false true c d = refl
    go false false true d = refl
    go false false false true = refl
    go false false false false = refl
