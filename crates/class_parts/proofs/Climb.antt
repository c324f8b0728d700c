-- Walks up a chain of which each number has one above it at most.
use Rattle.std.proofs.Common.{◌≡◌, ◌≢◌, ◌⊎◌, ℕ, zero, suc, ◌+◌, ◌<◌, ◌≤◌, Bool, true, false, cond, Option, Some, None, List, [], ◌∷◌, length, nat_lt, nat_eq, inl, inr, sym, refl, ap, subst, ◌∙◌, arith}
use Rattle.std.proofs.lemmas.Bool.{cases_lt, lt-ltb, le-ltb, eqb-true, eq-eqb}
use Rattle.std.specs.Prelude.{option_map, not}
use Rattle.std.proofs.lemmas.Option.{slice_get_within}
use Rattle.std.specs.List.{slice_get}
use Rattle.class_chains.specs.Ends.{Reaches, here, further, IsAboveFirst}
use Rattle.class_rows.specs.declared.row.TypeRow.{TypeRow}
use Rattle.class_rows.specs.Types.{HasType, IsBase, IsOuter, IsAbove}
use Rattle.dc_base.specs.declared.names.TypeId.{TypeId}

-- the first place of a number in a list, or the list's length
abbrev pub first_place : List ℕ → ℕ → ℕ
first_place [] t = 0
first_place (x ∷ xs) t = cond (nat_eq x t) 0 (suc (first_place xs t))

-- how far from the top of its chain a number stands, at most
abbrev pub height : ℕ → List ℕ → ℕ → ℕ
height bound order t = cond (nat_lt t bound) (suc (first_place order t)) 0

place_of : (order : List ℕ) (k t : ℕ) → slice_get order k ≡ Some t → first_place order t ≤ k
place_of [] k t h = let e : None ≡ Some t = h in cc
place_of (x ∷ xs) zero t h = let e : x ≡ t = cc in rw (eq-eqb x t e) (omega arith)
place_of (x ∷ xs) (suc k) t h =
    elim (nat_eq x t) as (λ (v : Bool). cond v 0 (suc (first_place xs t)) ≤ suc k) [
      | true ↦ omega arith
      | false ↦ omega (arith, place_of xs k t h)
    ]

at_place : (order : List ℕ) (k t : ℕ) → slice_get order k ≡ Some t → slice_get order (first_place order t) ≡ Some t
at_place [] k t h = h
at_place (x ∷ xs) zero t h = let e : x ≡ t = cc in rw (eq-eqb x t e) h
at_place (x ∷ xs) (suc k) t h =
    elim (nat_eq x t) as (λ (v : Bool). nat_eq x t ≡ v → slice_get (x ∷ xs) (cond v 0 (suc (first_place xs t))) ≡ Some t) [
      | true ↦ λ e. ap Some (eqb-true x t e)
      | false ↦ λ e. at_place xs k t h
    ] refl

-- one number up is nearer to the top
pub lower : (up : ℕ → ℕ → Type 0) (bound : ℕ) (order : List ℕ) (t b : ℕ) → IsAboveFirst up bound order → t < bound → up t b → height bound order b < height bound order t
lower up bound order t b first lt way =
    let place = first.all t lt in
    let at = at_place order place.0 t place.1 in
    elim (cases_lt b bound) [
      | inl inside ↦
          let before = first.above (first_place order t) t b at way inside in
          let le = place_of order before.0 b before.2 in
          let higher : suc (first_place order b) < suc (first_place order t) = omega (arith, le, before.1) in
          rw (lt-ltb t bound lt, lt-ltb b bound inside) higher
      | inr past ↦ rw (lt-ltb t bound lt, le-ltb b bound past) (omega arith)
    ]

-- what is reached from a number is the number, or is reached from the one above it
pub reached : (up : ℕ → ℕ → Type 0) (t a : ℕ) → Reaches up t a → (t ≡ a) ⊎ ((b : ℕ) × up t b × Reaches up b a)
reached up t a (here u) = inl refl
reached up t a (further u b c way rest) = inr (b, way, rest)

-- a row is one alone
one_row : {X : Type 0} (xs : List X) (t : ℕ) (a b : X) → slice_get xs t ≡ Some a → slice_get xs t ≡ Some b → a ≡ b
one_row xs t a b p q = let e : Some a ≡ Some b = sym p ∙ q in cc

-- a type by its number
abbrev type_of : ℕ → Option TypeId
type_of n = Some (record { 0 = n })

same_number : (b d : ℕ) → type_of b ≡ type_of d → b ≡ d
same_number b d h = let e : Some b ≡ Some d = ap (λ (o : Option TypeId). option_map (λ (t : TypeId). t.0) o) h in cc

pub one_base : (types : List TypeRow) (t b d : ℕ) → IsBase types t b → IsBase types t d → b ≡ d
one_base types t b d p q =
    let e = one_row types t p.row q.row p.stands q.stands in
    same_number b d (sym p.is ∙ ap (λ (row : TypeRow). row.base) e ∙ q.is)

pub one_outer : (types : List TypeRow) (t b d : ℕ) → IsOuter types t b → IsOuter types t d → b ≡ d
one_outer types t b d p q =
    let e = one_row types t p.row q.row p.stands q.stands in
    same_number b d (sym p.is ∙ ap (λ (row : TypeRow). row.outer) e ∙ q.is)

-- the walk from t stands here: what is reached from here is what is reached from t
pub record IsClimb (up : ℕ → ℕ → Type 0) (t at a : ℕ) : Type 0 where
  pub to : Reaches up at a → Reaches up t a
  pub from : Reaches up t a → Reaches up at a

pub climbed : (up : ℕ → ℕ → Type 0) → ((t b d : ℕ) → up t b → up t d → b ≡ d) → (t at b a : ℕ) → IsClimb up t at a → up at b → (at ≡ a → ⊥) → IsClimb up t b a
climbed up one t at b a climb way apart = record {
  to = λ r. climb.to (further at b a way r);
  from = λ r. elim (reached up at a (climb.from r)) [
    | inl e ↦ absurd (apart e)
    | inr s ↦ subst (λ (n : ℕ). Reaches up n a) (one at s.0 b s.1 way) s.2
  ];
}

pub not_reached : (up : ℕ → ℕ → Type 0) (t at a : ℕ) → IsClimb up t at a → ((b : ℕ) → up at b → ⊥) → (at ≡ a → ⊥) → Reaches up t a → ⊥
not_reached up t at a climb top apart r = elim (reached up at a (climb.from r)) [
  | inl e ↦ apart e
  | inr s ↦ top s.0 s.1
]

pub is_reached : (up : ℕ → ℕ → Type 0) (t at a : ℕ) → IsClimb up t at a → at ≡ a → Reaches up t a
is_reached up t at a climb e = climb.to (subst (λ (n : ℕ). Reaches up at n) e (here at))

-- a type with a base, or an outer type, is in the list
pub has_row : (types : List TypeRow) (t : ℕ) (Fact : TypeRow → Type 0) → HasType types t Fact → t < length types
has_row types t Fact h = slice_get_within types t h.row h.stands

pub lower_base : (types : List TypeRow) (order : List ℕ) (t b : ℕ) → IsAboveFirst (IsAbove types) (length types) order → IsBase types t b → height (length types) order b < height (length types) order t
lower_base types order t b first base = lower (IsAbove types) (length types) order t b first (has_row types t _ base) (inl base)

pub lower_outer : (types : List TypeRow) (order : List ℕ) (t b : ℕ) → IsAboveFirst (IsOuter types) (length types) order → IsOuter types t b → height (length types) order b < height (length types) order t
lower_outer types order t b first outer = lower (IsOuter types) (length types) order t b first (has_row types t _ outer) outer

-- what a test for another number says
pub is_apart : (a b : ℕ) → true ≡ not (nat_eq a b) → a ≡ b → ⊥
is_apart a b h e = let k : true ≡ false = h ∙ ap not (eq-eqb a b e) in cc

pub is_same : (a b : ℕ) → false ≡ not (nat_eq a b) → a ≡ b
is_same a b h =
    elim (nat_eq a b) as (λ (v : Bool). nat_eq a b ≡ v → false ≡ not v → a ≡ b) [
      | true ↦ λ e k. eqb-true a b e
      | false ↦ λ e k. let n : false ≡ true = k in cc
    ] refl h
