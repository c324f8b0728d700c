-- A table of names, filled from the last type to the first.
use Rattle.std.proofs.Common.{◌≡◌, ◌∙◌, ℕ, zero, suc, ◌+◌, Some, None, List, [], ◌∷◌, Option, cond, map, drop, refl, sym, ap, arith}
use Rattle.std.specs.List.{slice_get}
use Rattle.std.specs.Borrow.{Bor}
use Rattle.std.specs.Str.{bytes_eq}
use Rattle.cs_declared.specs.declared.declared.Declared.{Declared}
use Rattle.class_written.specs.Named.{number_from, names_of, number_of}
use Rattle.class_written.specs.Numbered.{at_name, AreNumbered, known_in}

-- the entries after those that gave one name its number
abbrev pub IsNumberedNow : List (Bor (List ℕ) × ℕ) → List (Bor (List ℕ) × ℕ) → List ℕ → ℕ → Type 0
IsNumberedNow before after name k = (asked : List ℕ) → at_name after asked ≡ cond (bytes_eq name asked) (Some k) (at_name before asked)

drop_at : {X : Type 0} (xs : List X) (k : ℕ) (x : X) → slice_get xs k ≡ Some x → drop k xs ≡ x ∷ drop (suc k) xs
drop_at [] k x h = let none : None ≡ Some x = h in absurd cc
drop_at (y ∷ xs) zero x h = let e : Some y ≡ Some x = h in cc
drop_at (y ∷ xs) (suc k) x h = drop_at xs k x h

pub one_more_name : (found : List Declared) (k : ℕ) (d : Declared) (before after : List (Bor (List ℕ) × ℕ)) → slice_get found k ≡ Some d → IsNumberedNow before after d.full k → AreNumbered (suc k) (drop (suc k) found) before → AreNumbered k (drop k found) after
one_more_name found k d before after stands now so = λ name.
    now name ∙ ap (λ (o : Option ℕ). cond (bytes_eq d.full name) (Some k) o) (so name)
    ∙ sym (ap (λ (ds : List Declared). number_from k (map (λ (e : Declared). e.full) ds) name) (drop_at found k d stands) ∙ ap (λ (j : ℕ). cond (bytes_eq d.full name) (Some k) (number_from j (map (λ (e : Declared). e.full) (drop (suc k) found)) name)) (let e : k + 1 ≡ suc k = omega arith in e))

pub same_names : (found : List Declared) → names_of (known_in found) ≡ map (λ (d : Declared). d.full) found
same_names [] = refl
same_names (d ∷ found) = ap (λ (ns : List (List ℕ)). d.full ∷ ns) (same_names found)

-- what the table says is what the types say
pub number_told : (found : List Declared) (entries : List (Bor (List ℕ) × ℕ)) (name : List ℕ) → AreNumbered 0 found entries → at_name entries name ≡ number_of (known_in found) name
number_told found entries name so = so name ∙ ap (λ (ns : List (List ℕ)). number_from 0 ns name) (sym (same_names found))
