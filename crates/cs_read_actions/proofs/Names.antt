-- A token of some of the kinds that are wanted.
use Rattle.std.proofs.Common.{◌≡◌, ℕ, true, List, [], ◌∷◌, refl}
use Rattle.cs_grammar.specs.Kinds.{has, begins, subset}
use Rattle.cs_grammar.specs.Grammar.{read_one}
use Rattle.cs_grammar.proofs.Sets.{subset-has}

-- one of these kinds is read as one of more kinds is
pub among : {T A : Type 0} (kind : T → ℕ) (xs ys : List ℕ) (f : T → A) (ts : List T) → subset xs ys ≡ true → begins kind xs ts ≡ true → read_one kind ys f ts ≡ read_one kind xs f ts
among kind xs ys f [] s b = cc
among kind xs ys f (t ∷ ts) s b =
    let more : has ys (kind t) ≡ true = subset-has xs ys (kind t) s b in
    let same : has xs (kind t) ≡ true = b in
    rw (more, same) refl
