-- What one token leaves, where the token itself was read.
use Rattle.std.proofs.Common.{◌≡◌, ℕ, List, [], ◌∷◌, ap, Ok}
use Rattle.cs_grammar.specs.Grammar.{TakesOne, read_one}
use Rattle.cs_grammar.proofs.Basics.{one_sound, one_again}

takes : {T A : Type 0} (kind : T → ℕ) (kinds : List ℕ) (f : T → A) (ts : List T) (t : T) (rest : List T) → TakesOne kind kinds (λ u. u) ts t rest → TakesOne kind kinds f ts (f t) rest
takes kind kinds f [] t rest d = d
takes kind kinds f (u ∷ us) t rest d = (d.0, ap f d.1, d.2)

-- the token of one of these kinds is read: so is what it leaves
pub one_of : {T A : Type 0} (kind : T → ℕ) (kinds : List ℕ) (f : T → A) (ts : List T) (t : T) (rest : List T) → read_one kind kinds (λ u. u) ts ≡ Ok (t, rest) → read_one kind kinds f ts ≡ Ok (f t, rest)
one_of kind kinds f ts t rest e = one_again kind kinds f ts (f t) rest (takes kind kinds f ts t rest (one_sound kind kinds (λ u. u) ts t rest e))
