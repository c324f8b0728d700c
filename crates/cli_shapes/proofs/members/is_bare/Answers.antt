use Rattle.std.proofs.Common.{◌≡◌, Bool, true, false, List, [], ◌∷◌, length, ◌==◌, refl, sym, arith}
use Rattle.std.specs.Bool.{OnTrue}
use Rattle.std.proofs.lemmas.Bool.{eqb-true}
use Rattle.class_rows.specs.declared.row.Param.{Param}
use Rattle.cli_shapes.proofs.members.is_bare.Goals as goal

none : (xs : List Param) (b : Bool) → b ≡ (length xs == 0) → OnTrue b (xs ≡ [])
none [] true e = refl
none [] false e = tt
none (x ∷ xs) true e = let k : length (x ∷ xs) ≡ 0 = eqb-true (length (x ∷ xs)) 0 (sym e) in absurd (omega (arith, k))
none (x ∷ xs) false e = tt

pub returns-clause-yes : goal.returns-clause-yes
returns-clause-yes c = none c.args.params.now c.is_empty.result c.is_empty.ensures
