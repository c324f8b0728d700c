-- Facts that flow over instructions, which go by number: some have a fact with which they are entered, and at a fact an
-- instruction may give another, which comes to each instruction to which it leads.
use Rattle.std.specs.Prelude.{◌≡◌, ◌⊎◌, ◌↔◌, ℕ, ◌<◌, List, Option, Some, length, slice_get, Contains}
use Rattle.verify_slots.specs.Slots.{IsUnited}

pub record Flow (F : Type 0) : Type 1 where
  pub Fine : F → Type 0
  pub In : F → F → Type 0
  pub Enters : ℕ → F → Type 0
  pub Gives : ℕ → F → F → Type 0
  pub Leads : ℕ → ℕ → Type 0

-- a fact for each instruction by its number, and none where it isn't reached
abbrev pub Facts : Type 0 → Type 0
Facts F = List (Option F)

abbrev pub Has : {F : Type 0} → Facts F → ℕ → F → Type 0
Has facts i f = slice_get facts i ≡ Some (Some f)

-- the fact of the instruction holds this one
abbrev pub Holds : {F : Type 0} → Flow F → Facts F → ℕ → F → Type 0
Holds {F} flow facts i f = (held : F) × Has facts i held × flow.In f held

-- at its fact each instruction gives one, and each fact that comes is held
pub record IsMap {F : Type 0} (flow : Flow F) (count : ℕ) (facts : Facts F) : Type 0 where
  pub as_many : length facts ≡ count
  pub fine : (i : ℕ) (f : F) → Has facts i f → flow.Fine f
  pub entries : (i : ℕ) (f : F) → flow.Enters i f → Holds flow facts i f
  pub accepted : (i : ℕ) (f : F) → Has facts i f → (left : F) × flow.Gives i f left × ((j : ℕ) → flow.Leads i j → Holds flow facts j left)

-- each of its facts is held by that of every map
abbrev pub IsBelow : {F : Type 0} → Flow F → ℕ → Facts F → Type 0
IsBelow {F} flow count facts =
    (map : Facts F) → IsMap flow count map → (i : ℕ) (f : F) → Has facts i f → Holds flow map i f

-- the least map
pub record IsLeastMap {F : Type 0} (flow : Flow F) (count : ℕ) (facts : Facts F) : Type 0 where
  pub map : IsMap flow count facts
  pub below : IsBelow flow count facts

-- holding is an order, an instruction gives one fact alone, and at a fact that is held it gives one that is held
pub record IsMonotone {F : Type 0} (flow : Flow F) : Type 0 where
  pub same : (f : F) → flow.In f f
  pub through : (f g h : F) → flow.In f g → flow.In g h → flow.In f h
  pub one : (i : ℕ) (f g h : F) → flow.Gives i f g → flow.Gives i f h → flow.In g h
  pub narrower : (i : ℕ) (f g h : F) → flow.Fine f → flow.In f g → flow.Gives i g h → (k : F) × flow.Gives i f k × flow.Fine k × flow.In k h

-- a fact that comes to an instruction: it is entered with it, or one that leads there gives it
pub record IsGiven {F : Type 0} (flow : Flow F) (facts : Facts F) (j : ℕ) (f : F) : Type 0 where
  pub i : ℕ
  pub before : F
  pub has : Has facts i before
  pub gives : flow.Gives i before f
  pub leads : flow.Leads i j

abbrev pub Comes : {F : Type 0} → Flow F → Facts F → ℕ → F → Type 0
Comes flow facts j f = flow.Enters j f ⊎ IsGiven flow facts j f

-- The entries and where instructions lead are lists, and of two facts that one holds it is decided whether the one holds the
-- other.
pub record IsFinite {F : Type 0} (flow : Flow F) : Type 0 where
  pub entries : ℕ → List F
  pub leads : ℕ → List ℕ
  pub enters : (i : ℕ) (f : F) → flow.Enters i f ↔ Contains (entries i) f
  pub led : (i j : ℕ) → flow.Leads i j ↔ Contains (leads i) j
  pub fine : (i : ℕ) (f : F) → flow.Enters i f → flow.Fine f
  pub decided : (f g h : F) → flow.In f h → flow.In g h → flow.In f g ⊎ (flow.In f g → ⊥)

-- two facts that one holds unite
abbrev pub HasJoins : {F : Type 0} → Flow F → Type 0
HasJoins {F} flow = (f g h : F) → flow.Fine f → flow.Fine g → flow.In f h → flow.In g h → (u : F) × flow.Fine u × IsUnited flow.In f g u

-- how far a fact is from one that holds it
pub record IsHeight {F : Type 0} (flow : Flow F) : Type 0 where
  pub height : F → F → ℕ
  pub top : F → ℕ
  pub under : (h f : F) → flow.Fine f → flow.In f h → height h f < top h
  pub falls : (h f u : F) → flow.Fine f → flow.Fine u → flow.In f u → (flow.In u f → ⊥) → flow.In u h → height h u < height h f
