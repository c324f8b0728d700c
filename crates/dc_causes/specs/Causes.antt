-- Causes in their order: the fault is that of the first cause that holds, at its least place.
use Rattle.std.specs.Prelude.{◌≡◌, ℕ, ◌<◌, List, [], ◌∷◌, ◌++◌, All, Ok, Err}
use Rattle.dc_causes.specs.First.{IsFirstOff, IsLeast}
use Rattle.dc_causes.specs.Step.{Step, Then}

-- each cause is asked in its order, and the first that faults counts
abbrev pub InOrder : {C F : Type 0} → (C → Step (Unit {0}) F) → List C → Step (Unit {0}) F
InOrder Asked [] r = r ≡ Ok tt
InOrder Asked (c ∷ causes) r = Then (Asked c) (λ _. InOrder Asked causes) r

-- the fact holds of each item, or the fault is that of the first item of which it doesn't, with its number
abbrev pub Each : {X F : Type 0} → (X → Type 0) → (ℕ → X → F) → List X → Step (Unit {0}) F
Each Fact fault items (Ok a) = All Fact items
Each {X} Fact fault items (Err f) = (item : X) × (first : IsFirstOff Fact items item) × (f ≡ fault first.index item)

-- the fact holds of no number, or the fault is that of the least number of which it does
abbrev pub Least : {F : Type 0} → (ℕ → Type 0) → (ℕ → F) → Step (Unit {0}) F
Least Fact fault (Ok a) = (n : ℕ) → Fact n → ⊥
Least Fact fault (Err f) = (n : ℕ) × IsLeast Fact n × (f ≡ fault n)

-- each number below the bound passes its step, or the fault is that of the least that doesn't
abbrev pub Below : {F : Type 0} → ℕ → (ℕ → Step (Unit {0}) F) → Step (Unit {0}) F
Below bound Visit (Ok a) = (n : ℕ) → n < bound → Visit n (Ok tt)
Below bound Visit (Err f) = (n : ℕ) × (n < bound) × ((m : ℕ) → m < n → Visit m (Ok tt)) × Visit n (Err f)

-- each round passes its step, or the fault is that of the first round that doesn't
abbrev pub Rounds : {F : Type 0} → (ℕ → Step (Unit {0}) F) → Step (Unit {0}) F
Rounds Round (Ok a) = (n : ℕ) → Round n (Ok tt)
Rounds Round (Err f) = (n : ℕ) × ((m : ℕ) → m < n → Round m (Ok tt)) × Round n (Err f)

-- what `InOrder` says at a fault, in one sentence: a cause has it, and each cause before that one is passed
pub record IsFirstFault {C F : Type 0} (Asked : C → Step (Unit {0}) F) (causes : List C) (f : F) : Type 0 where
  pub before : List C
  pub first : C
  pub behind : List C
  pub among : causes ≡ before ++ (first ∷ behind)
  pub passed : All (λ c. Asked c (Ok tt)) before
  pub fails : Asked first (Err f)
