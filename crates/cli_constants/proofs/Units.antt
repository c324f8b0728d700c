-- Units of a text, and those behind them.
use Rattle.std.proofs.Common.{◌≡◌, ℕ, List, [], ◌∷◌, ◌++◌, Option, Some, None, refl, sym, ap, append_assoc}
use Rattle.cli_constants.specs.Values.{with_unit}

abbrev pub joined : List ℕ → Option (List ℕ) → Option (List ℕ)
joined units None = None
joined units (Some behind) = Some (units ++ behind)

pub joined_none : (rest : Option (List ℕ)) → rest ≡ joined [] rest
joined_none None = refl
joined_none (Some behind) = refl

pub joined_one : (units : List ℕ) (unit : ℕ) (rest : Option (List ℕ)) → joined units (with_unit unit rest) ≡ joined (units ++ unit ∷ []) rest
joined_one units unit None = refl
joined_one units unit (Some behind) = ap (λ (l : List ℕ). Some l) (sym (append_assoc units (unit ∷ []) behind))
