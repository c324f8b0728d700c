-- All types that stand so, one behind the other.
use Rattle.std.proofs.Common.{◌≡◌, ◌∙◌, ℕ, zero, suc, ◌+◌, ◌≤◌, Some, None, Option, List, [], ◌∷◌, ◌++◌, length, drop, refl, sym, ap, append_assoc, arith}
use Rattle.std.specs.List.{slice_get}
use Rattle.std.specs.Option.{option_map}
use Rattle.dc_base.specs.declared.ty.Ty.{Ty}
use Rattle.cli_signature.specs.declared.raw.RawTy.{RawTy}
use Rattle.cli_types.specs.declared.types.Types.{Types}
use Rattle.cli_types.specs.Said.{type_said, and_others, all_types}

-- these types, and behind them the rest
abbrev pub behind : List Ty → Option (List Ty) → Option (List Ty)
behind found rest = option_map (λ (tys : List Ty). found ++ tys) rest

-- all types are those that were found, and those of the rest
abbrev pub IsSoFar : Types → List RawTy → List Ty → ℕ → Type 0
IsSoFar types raws found i = all_types types raws ≡ behind found (all_types types (drop i raws))

nothing_before : (rest : Option (List Ty)) → rest ≡ behind [] rest
nothing_before None = refl
nothing_before (Some tys) = refl

pub at_first : (types : Types) (raws : List RawTy) → IsSoFar types raws [] 0
at_first types raws = nothing_before (all_types types raws)

drop_first : {X : Type 0} (xs : List X) (k : ℕ) (x : X) → slice_get xs k ≡ Some x → drop k xs ≡ x ∷ drop (suc k) xs
drop_first [] k x h = let none : None ≡ Some x = h in absurd cc
drop_first (y ∷ xs) zero x h = let e : Some y ≡ Some x = h in cc
drop_first (y ∷ xs) (suc k) x h = drop_first xs k x h

drop_at : {X : Type 0} (xs : List X) (k : ℕ) (x : X) → slice_get xs k ≡ Some x → drop k xs ≡ x ∷ drop (k + 1) xs
drop_at {X} xs k x h = drop_first xs k x h ∙ ap (λ (j : ℕ). x ∷ drop j xs) (let e : suc k ≡ k + 1 = omega arith in e)

pushed : (found : List Ty) (ty : Ty) (rest : Option (List Ty)) → behind found (and_others (Some ty) rest) ≡ behind (found ++ (ty ∷ [])) rest
pushed found ty None = refl
pushed found ty (Some tys) = ap (λ (l : List Ty). Some l) (sym (append_assoc found (ty ∷ []) tys))

pub one_more : (types : Types) (raws : List RawTy) (i : ℕ) (raw : RawTy) (ty : Ty) (found : List Ty) → slice_get raws i ≡ Some raw → type_said types raw ≡ Some ty → IsSoFar types raws found i → IsSoFar types raws (found ++ (ty ∷ [])) (i + 1)
one_more types raws i raw ty found stands said so =
    so ∙ ap (λ (l : List RawTy). behind found (all_types types l)) (drop_at raws i raw stands)
    ∙ ap (λ (o : Option Ty). behind found (and_others o (all_types types (drop (i + 1) raws)))) said
    ∙ pushed found ty (all_types types (drop (i + 1) raws))

pub none_said : (types : Types) (raws : List RawTy) (i : ℕ) (raw : RawTy) (found : List Ty) → slice_get raws i ≡ Some raw → type_said types raw ≡ None → IsSoFar types raws found i → all_types types raws ≡ None
none_said types raws i raw found stands said so =
    so ∙ ap (λ (l : List RawTy). behind found (all_types types l)) (drop_at raws i raw stands)
    ∙ ap (λ (o : Option Ty). behind found (and_others o (all_types types (drop (i + 1) raws)))) said

drop_past : {X : Type 0} (xs : List X) (k : ℕ) → length xs ≤ k → drop k xs ≡ []
drop_past [] zero h = refl
drop_past [] (suc k) h = refl
drop_past (x ∷ xs) zero h = absurd (omega (arith, h))
drop_past (x ∷ xs) (suc k) h = drop_past xs k (omega (arith, h))

nothing_behind : (found : List Ty) → found ++ [] ≡ found
nothing_behind [] = refl
nothing_behind (ty ∷ found) = ap (λ (l : List Ty). ty ∷ l) (nothing_behind found)

pub all_said : (types : Types) (raws : List RawTy) (i : ℕ) (found : List Ty) → length raws ≤ i → IsSoFar types raws found i → all_types types raws ≡ Some found
all_said types raws i found over so =
    so ∙ ap (λ (l : List RawTy). behind found (all_types types l)) (drop_past raws i over) ∙ ap (λ (l : List Ty). Some l) (nothing_behind found)
