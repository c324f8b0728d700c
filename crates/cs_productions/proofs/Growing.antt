-- A grammar and the same with more levels, which is exact: each part keeps both.
use Rattle.std.proofs.Common.{◌≡◌, ℕ, Bool, true, false, cond, ◌&&◌, List, [], ◌∷◌, ◌++◌, refl}
use Rattle.cs_token.specs.Placed.{Placed as Token}
use Rattle.cs_grammar.specs.Kinds.{has, disjoint, subset}
use Rattle.cs_grammar.specs.Grammar.{Grammar, gives, one, bind, either, guarded, turns}
use Rattle.cs_grammar.specs.Exact.{Exact}
use Rattle.cs_grammar.specs.Whole.{Deeper}
use Rattle.cs_grammar.specs.Levels.{Yields, Enters}
use Rattle.cs_grammar.proofs.Basics.{exact_gives, exact_one, wider}
use Rattle.cs_grammar.proofs.Bind.{then}
use Rattle.cs_grammar.proofs.Either.{or}
use Rattle.cs_grammar.proofs.Limited.{guard}
use Rattle.cs_grammar.proofs.Turns.{repeat}
use Rattle.cs_grammar.proofs.Deeper.{yields_any, deeper_gives, deeper_one, deeper_then, deeper_or, deeper_turns}
use Rattle.cs_productions.specs.Kinds.{names}
use Rattle.cs_productions.specs.Tokens.{kind, sign, place, any_name}
use Rattle.cs_productions.proofs.ExactTokens.{sample_of, exact_sign, exact_place, exact_any_name}
use Rattle.cs_productions.proofs.DeeperTypes.{deeper_sign, deeper_place, deeper_any_name}
use Rattle.cs_productions.proofs.Deepening.{deeper_where}

pub record Grows {A : Type 0} (g wide : Grammar Token A) (first follow : List ℕ) (null : Bool) : Type 0 where
  pub deeper : Deeper g wide
  pub exact : Exact kind wide first follow null

pub grows : {A : Type 0} {g wide : Grammar Token A} {first follow : List ℕ} {null : Bool} → Deeper g wide → Exact kind wide first follow null → Grows g wide first follow null
grows d x = record { deeper = d; exact = x }

pub to : {A : Type 0} {g wide : Grammar Token A} {first more follow further : List ℕ} {null : Bool} → subset first more ≡ true → subset follow further ≡ true → Grows g wide first follow null → Grows g wide more further null
to s t z = grows z.deeper (wider s t z.exact)

pub grows_gives : {A : Type 0} (a : A) → Grows (gives a) (gives a) [] [] true
grows_gives a = grows (deeper_gives a) (exact_gives a)

pub grows_one : {A : Type 0} (kinds : List ℕ) (f : Token → A) (sample : Token) → has kinds (kind sample) ≡ true → Grows (one kind kinds f) (one kind kinds f) kinds [] false
grows_one kinds f sample is = grows (deeper_one kind kinds f) (exact_one kinds f sample is)

pub grows_sign : (k : ℕ) → has (k ∷ []) (kind (sample_of k)) ≡ true → Grows (sign k) (sign k) (k ∷ []) [] false
grows_sign k is = grows (deeper_sign k) (exact_sign k is)

pub grows_place : (k : ℕ) → has (k ∷ []) (kind (sample_of k)) ≡ true → Grows (place k) (place k) (k ∷ []) [] false
grows_place k is = grows (deeper_place k) (exact_place k is)

pub grows_any_name : Grows any_name any_name names [] false
grows_any_name = grows deeper_any_name exact_any_name

-- one behind the other, where nothing is asked of the value
pub grows_then : {A B : Type 0} {g wide : Grammar Token A} {f further : A → Grammar Token B} {xs ys v w : List ℕ} {m n : Bool} → Grows g wide xs v m → disjoint v ys ≡ true → ((a : A) → Grows (f a) (further a) ys w n) → Grows (bind g f) (bind wide further) (xs ++ cond m ys []) (w ++ cond n v []) (m && n)
grows_then {g = g} z d k =
    grows (deeper_then z.deeper (yields_any g) (λ a _. (k a).deeper) (λ a. (k a).exact)) (then z.exact d (λ a. (k a).exact))

-- and where the value is not too high
pub grows_with : {A B : Type 0} {P : A → Type 0} {g wide : Grammar Token A} {f further : A → Grammar Token B} {xs ys v w : List ℕ} {m n : Bool} → Grows g wide xs v m → Yields P g → disjoint v ys ≡ true → ((a : A) → P a → Deeper (f a) (further a)) → ((a : A) → Exact kind (further a) ys w n) → Grows (bind g f) (bind wide further) (xs ++ cond m ys []) (w ++ cond n v []) (m && n)
grows_with z y d k x = grows (deeper_then z.deeper y k x) (then z.exact d x)

pub grows_or : {A : Type 0} {g wide h further : Grammar Token A} {xs ys v w : List ℕ} {null : Bool} (first : List ℕ) → subset xs first ≡ true → disjoint first ys ≡ true → Grows g wide xs v false → Grows h further ys w null → Grows (either kind first g h) (either kind first wide further) (xs ++ ys) (v ++ (w ++ cond null first [])) null
grows_or first s d z y = grows (deeper_or kind first z.deeper y.deeper) (or first s d z.exact y.exact)

-- what there is room for with more levels
pub grows_where : {A : Type 0} {g wide h further : Grammar Token A} {xs ys v w : List ℕ} {null : Bool} (first : List ℕ) (room more : Bool) → subset xs first ≡ true → disjoint first ys ≡ true → more ≡ true → Enters kind first wide → (room ≡ true → Deeper g wide) → Exact kind wide xs v false → Grows h further ys w null → Grows (guarded kind room first g h) (guarded kind more first wide further) (xs ++ ys) (v ++ (w ++ cond null first [])) null
grows_where first room more s d m n z x y = grows (deeper_where first room more m n z y.deeper) (guard first more s d x y.exact)

-- rounds
pub grows_turns : {A : Type 0} {f further : A → Grammar Token A} {ys w : List ℕ} (first : List ℕ) (a : A) → subset ys first ≡ true → disjoint w ys ≡ true → ((b : A) → Enters kind first (further b)) → ((b : A) → Grows (f b) (further b) ys w false) → Grows (turns kind first (λ _. true) f a) (turns kind first (λ _. true) further a) ys (w ++ first) true
grows_turns {f = f} first a s d n z =
    grows
    (deeper_turns {P = λ _. Unit {0}} first (λ _. true) (λ _. true) a tt (λ _ _. refl) (λ b _ _. yields_any (f b)) (λ b _. (z b).deeper) n (λ b. (z b).exact))
    (repeat first (λ _. true) a s d (λ b. (z b).exact))
