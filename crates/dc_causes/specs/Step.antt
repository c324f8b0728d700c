-- A reader as steps. A step is a relation to its own answers: `Ok` with what it reads, `Err` with its fault.
use Rattle.std.specs.Prelude.{◌≡◌, List, [], ◌∷◌, length, slice_index_or, ℕ, ◌+◌, ◌<◌, Result, Ok, Err}

-- a step that reads an A or has a fault F
abbrev pub Step : Type 0 → Type 0 → Type 1
Step A F = Result A F → Type 0

-- this value, whatever there is to read
abbrev pub Gives : {A F : Type 0} → A → Step A F
Gives a r = r ≡ Ok a

-- the fact holds, or this is the fault
abbrev pub Test : {F : Type 0} → Type 0 → F → Step (Unit {0}) F
Test Fact fault (Ok a) = Fact
Test Fact fault (Err f) = (Fact → ⊥) × (f ≡ fault)

-- a value of which the fact holds, or this fault where it holds of none
abbrev pub Reads : {A F : Type 0} → (A → Type 0) → F → Step A F
Reads Is fault (Ok a) = Is a
Reads {A} Is fault (Err f) = ((a : A) → Is a → ⊥) × (f ≡ fault)

-- the first step's fault, or what the next step answers for the value that the first one reads
pub data Then {A B F : Type 0} (First : Step A F) (Next : A → Step B F) (r : Result B F) : Type 0 where
  stop : (f : F) → First (Err f) → r ≡ Err f → Then First Next r
  go : (a : A) → First (Ok a) → Next a r → Then First Next r

infixr 20 ◌>>=◌
infixr 20 ◌>>◌
-- the same, for a definition that is written as a `do` block
abbrev pub ◌>>=◌ : {A B F : Type 0} → Step A F → (A → Step B F) → Step B F
First >>= Next = Then First Next

abbrev pub ◌>>◌ : {A B F : Type 0} → Step A F → Step B F → Step B F
First >> Next = Then First (λ _. Next)

-- the same step, whose faults are told in other words
abbrev pub Told : {A E F : Type 0} → (E → F) → Step A E → Step A F
Told tell Inner (Ok a) = Inner (Ok a)
Told {E = E} tell Inner (Err f) = (e : E) × Inner (Err e) × (f ≡ tell e)

-- what the step reads of each item in turn, with the item's number; the first fault counts
abbrev pub Traverse : {X A F : Type 0} → (ℕ → X → Step A F) → ℕ → List X → Step (List A) F
Traverse Visit k [] r = r ≡ Ok []
Traverse Visit k (x ∷ xs) r = Then (Visit k x) (λ a. Then (Traverse Visit (k + 1) xs) (λ rest. Gives (a ∷ rest))) r

-- what so many steps read, one for each number from 0 on; the first fault counts
abbrev pub Times : {A F : Type 0} → ℕ → (ℕ → Step A F) → Step (List A) F
Times {A} count Visit (Ok values) =
    (length values ≡ count) × ((k : ℕ) (d : A) → k < count → Visit k (Ok (slice_index_or values k d)))
Times {A} count Visit (Err f) =
    (k : ℕ) × (k < count) × ((j : ℕ) → j < k → (a : A) × Visit j (Ok a)) × Visit k (Err f)
