-- Inner facts: a walk over the tree of bases as a ring of nodes. Of n types, node t stands for the entry of the type t,
-- node n + t for its leave, and node 2 n is the head.
use Rattle.std.specs.Prelude.{◌≡◌, ◌≢◌, ◌⊎◌, ℕ, ◌+◌, ◌-◌, ◌*◌, ◌<◌, ◌≤◌, List, [], ◌∷◌, Some, nat_lt, if◌then◌else◌, length, slice_get}
use Rattle.class_rows.specs.declared.row.TypeRow.{TypeRow}
use Rattle.class_rows.specs.Types.{IsBase}
use Rattle.class_walk.specs.declared.walk.Step.{Step}
use Rattle.class_walk.specs.declared.walk.Step.TheVariants.{Enter, Leave}
use Rattle.class_walk.specs.Walk.{IsWalk}

abbrev pub node_head : ℕ → ℕ
node_head n = 2 * n

abbrev pub node_none : ℕ → ℕ
node_none n = 2 * n + 1

abbrev pub node_of : ℕ → Step → ℕ
node_of n (Enter t) = t.0
node_of n (Leave t) = n + t.0

abbrev pub step_at : ℕ → ℕ → Step
step_at n node = if nat_lt node n then Enter (record { 0 = node }) else Leave (record { 0 = node - n })

abbrev pub type_of : Step → ℕ
type_of (Enter t) = t.0
type_of (Leave t) = t.0

-- the node behind which a type's entry stands: the entry of its base, or the head where the base isn't there
abbrev pub IsPlaceFor : List TypeRow → ℕ → ℕ → Type 0
IsPlaceFor types t at =
    ((at < length types) × IsBase types t at)
    ⊎ ((at ≡ node_head (length types)) × ((b : ℕ) → IsBase types t b → length types ≤ b))

-- from a node on the ring has these steps, and then its head
abbrev pub Spells : ℕ → List ℕ → ℕ → List Step → Type 0
Spells n next from_ [] = slice_get next from_ ≡ Some (node_head n)
Spells n next from_ (s ∷ steps) = (slice_get next from_ ≡ Some (node_of n s)) × Spells n next (node_of n s) steps

-- a step stands among the steps
abbrev pub Has : List Step → Step → Type 0
Has [] r = ⊥
Has (s ∷ steps) r = (s ≡ r) ⊎ Has steps r

-- no step is of this node, of this type
abbrev pub LacksNode : ℕ → ℕ → List Step → Type 0
LacksNode n v [] = Unit {0}
LacksNode n v (s ∷ steps) = (node_of n s ≡ v → ⊥) × LacksNode n v steps

-- no node stands twice, and each is a type's
abbrev pub AreApart : ℕ → List Step → Type 0
AreApart n [] = Unit {0}
AreApart n (s ∷ steps) = (type_of s < n) × LacksNode n (node_of n s) steps × AreApart n steps

-- the ring with the first types of an order
pub record IsRing (types : List TypeRow) (next order : List ℕ) (k : ℕ) : Type 0 where
  pub long : length next ≡ node_none (length types)
  pub steps : List Step
  pub spells : Spells (length types) next (node_head (length types)) steps
  pub walk : IsWalk types [] steps
  pub apart : AreApart (length types) steps
  pub few : length steps ≤ 2 * k
  pub has : (j t : ℕ) → j < k → slice_get order j ≡ Some t → Has steps (Enter (record { 0 = t }))
  pub loose : (t : ℕ) → t < length types → Has steps (Enter (record { 0 = t })) ⊎ (slice_get next t ≡ Some (node_none (length types)))

-- a type's entry and leave are put behind a node, where they aren't in the ring yet
pub record IsRingPut (n : ℕ) (before after : List ℕ) (at t : ℕ) : Type 0 where
  pub long : length after ≡ length before
  pub stays : (slice_get before t ≡ Some (node_none n) → ⊥) → after ≡ before
  pub entry : slice_get before t ≡ Some (node_none n) → slice_get after at ≡ Some t
  pub leave : slice_get before t ≡ Some (node_none n) → at ≢ t → slice_get after t ≡ Some (n + t)
  pub behind : slice_get before t ≡ Some (node_none n) → at ≢ t → at ≢ n + t → slice_get after (n + t) ≡ slice_get before at
  pub rest : slice_get before t ≡ Some (node_none n) → (j : ℕ) → j ≢ at → j ≢ t → j ≢ n + t → slice_get after j ≡ slice_get before j
