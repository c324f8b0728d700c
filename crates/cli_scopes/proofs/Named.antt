-- A table of names, filled from the last type to the first.
use Rattle.std.proofs.Common.{◌≡◌, ◌∙◌, ℕ, zero, suc, ◌+◌, Bool, Some, None, List, [], ◌∷◌, ◌&&◌, Option, cond, drop, refl, sym, ap, arith}
use Rattle.std.specs.List.{slice_get}
use Rattle.std.specs.Str.{bytes_eq}
use Rattle.std.specs.Map.{lookup}
use Rattle.cli_scopes.specs.declared.name.Within.{Within}
use Rattle.cli_scopes.specs.declared.name.Within.TheVariants.{References, Own, InType}
use Rattle.cli_scopes.specs.declared.name.TypeName.{TypeName}
use Rattle.cli_scopes.specs.Names.{is_within, is_name, first_from}
use Rattle.cli_scopes.specs.Numbered.{at_name, AreNumbered}
use Rattle.cli_scopes.specs.contracts.name.WithinPartialEq.TheImpl as within_impl
use Rattle.cli_scopes.specs.contracts.name.TypeNamePartialEq.TheImpl as name_impl

within_same : (a b : Within) → (within_impl.eq-value).it a b ≡ is_within a b
within_same References References = refl
within_same References Own = refl
within_same References (InType u) = refl
within_same Own References = refl
within_same Own Own = refl
within_same Own (InType u) = refl
within_same (InType t) References = refl
within_same (InType t) Own = refl
within_same (InType t) (InType u) = refl

pub name_same : (a b : TypeName) → (name_impl.eq-value).it a b ≡ is_name a b
name_same a b =
    ap (λ (w : Bool). w && (bytes_eq a.space.now b.space.now && bytes_eq a.name.now b.name.now)) (within_same a.within b.within)

-- two tests that agree find the same
pub lookup_same : {K X : Type 0} (f g : K → Bool) → ((k : K) → f k ≡ g k) → (entries : List (K × X)) → lookup f entries ≡ lookup g entries
lookup_same f g same [] = refl
lookup_same {K} {X} f g same (e ∷ entries) =
    ap (λ (b : Bool). cond b (Some e.1) (lookup f entries)) (same e.0) ∙ ap (λ (o : Option X). cond (g e.0) (Some e.1) o) (lookup_same f g same entries)

drop_at : {X : Type 0} (xs : List X) (k : ℕ) (x : X) → slice_get xs k ≡ Some x → drop k xs ≡ x ∷ drop (suc k) xs
drop_at [] k x h = let none : None ≡ Some x = h in absurd cc
drop_at (y ∷ xs) zero x h = let e : Some y ≡ Some x = h in cc
drop_at (y ∷ xs) (suc k) x h = drop_at xs k x h

-- the entries after those that gave one name its number
abbrev pub IsNumberedNow : List (TypeName × ℕ) → List (TypeName × ℕ) → TypeName → ℕ → Type 0
IsNumberedNow before after name k = (asked : TypeName) → at_name after asked ≡ cond (is_name name asked) (Some k) (at_name before asked)

pub one_more_name : (names : List TypeName) (k : ℕ) (n : TypeName) (before after : List (TypeName × ℕ)) → slice_get names k ≡ Some n → IsNumberedNow before after n k → AreNumbered (suc k) (drop (suc k) names) before → AreNumbered k (drop k names) after
one_more_name names k n before after stands now so = λ name.
    now name ∙ ap (λ (o : Option ℕ). cond (is_name n name) (Some k) o) (so name)
    ∙ sym (ap (λ (ns : List TypeName). first_from k ns name) (drop_at names k n stands) ∙ ap (λ (j : ℕ). cond (is_name n name) (Some k) (first_from j (drop (suc k) names) name)) (let e : k + 1 ≡ suc k = omega arith in e))
