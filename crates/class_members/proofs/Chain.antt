-- Marks along a base chain.
use Rattle.std.proofs.Common.{◌≡◌, ◌⊎◌, ℕ, suc, ◌<◌, ◌≤◌, Bool, true, Option, Some, None, List, length, refl, sym, ◌∙◌, subst, inl, inr, arith}
use Rattle.std.proofs.Math.ListN.{set, length-set}
use Rattle.std.specs.List.{slice_get}
use Rattle.std.specs.Prelude.{IfSome, IfNone}
use Rattle.std.proofs.lemmas.Bool.{cases_lt}
use Rattle.std.proofs.lemmas.List.{set_past}
use Rattle.dc_base.specs.declared.names.TypeId.{TypeId}
use Rattle.class_chains.specs.Ends.{here, further, IsAboveFirst}
use Rattle.class_rows.specs.declared.row.TypeRow.{TypeRow}
use Rattle.class_rows.specs.Types.{IsBase, InBaseChain, IsAbove}
use Rattle.class_parts.proofs.Climb.{height, lower_base, reached, one_base}
use Rattle.class_members.specs.Fieldless.{Marks}
use Rattle.class_members.proofs.Write.{at_set, set_at, kept_up}

-- how much of the chain is left
abbrev pub left_of : List TypeRow → List ℕ → Option TypeId → ℕ
left_of types order None = 0
left_of types order (Some t) = suc (height (length types) order t.0)

-- where the walk stands, if it goes on
abbrev pub IsLeft : List TypeRow → Option TypeId → ℕ → Type 0
IsLeft types None u = ⊥
IsLeft types (Some at) u = InBaseChain types at.0 u

-- the base of a type, if it has one
abbrev pub IsNext : List TypeRow → ℕ → Option TypeId → Type 0
IsNext types at None = (b : ℕ) → IsBase types at b → ⊥
IsNext types at (Some b) = IsBase types at b.0

-- the types from t up to where the walk stands are marked
pub record IsMarking (types : List TypeRow) (t : ℕ) (next : Option TypeId) (old flags : List Bool) : Type 0 where
  pub long : length flags ≡ length old
  pub chain : (u : ℕ) → IsLeft types next u → InBaseChain types t u
  pub sound : (u : ℕ) → slice_get flags u ≡ Some true → (slice_get old u ≡ Some true) ⊎ InBaseChain types t u
  pub kept : (u : ℕ) → slice_get old u ≡ Some true → slice_get flags u ≡ Some true
  pub added : (u : ℕ) → InBaseChain types t u → u < length old → (slice_get flags u ≡ Some true) ⊎ IsLeft types next u

pub marking_begins : (types : List TypeRow) (t : TypeId) (flags : List Bool) → IsMarking types t.0 (Some t) flags flags
marking_begins types t flags = record {
  long = refl;
  chain = λ u r. r;
  sound = λ u h. inl h;
  kept = λ u h. h;
  added = λ u r lt. inr r;
}

-- what is left above a type is left above the next one, or is that type
left_above : (types : List TypeRow) (at u : ℕ) (next : Option TypeId) → IsNext types at next → InBaseChain types at u → (at ≡ u) ⊎ IsLeft types next u
left_above types at u None none r = elim (reached (IsBase types) at u r) [
  | inl e ↦ inl e
  | inr s ↦ absurd (none s.0 s.1)
]
left_above types at u (Some b) is r = elim (reached (IsBase types) at u r) [
  | inl e ↦ inl e
  | inr s ↦ inr (subst (λ (n : ℕ). InBaseChain types n u) (one_base types at s.0 b.0 s.1 is) s.2)
]

left_on : (types : List TypeRow) (at u : ℕ) (next : Option TypeId) → IsNext types at next → IsLeft types next u → InBaseChain types at u
left_on types at u None none r = absurd r
left_on types at u (Some b) is r = further at b.0 u is r

pub marked_here : (types : List TypeRow) (t : ℕ) (at : TypeId) (next : Option TypeId) (old flags : List Bool) → at.0 < length flags → IsNext types at.0 next → IsMarking types t (Some at) old flags → IsMarking types t next old (set flags at.0 true)
marked_here types t at next old flags lt is so = record {
  long = length-set flags at.0 true ∙ so.long;
  chain = λ u r. so.chain u (left_on types at.0 u next is r);
  sound = λ u h. elim (at_set flags at.0 true u true h) [
    | inl new ↦ inr (subst (λ (n : ℕ). InBaseChain types t n) (sym new.0) (so.chain at.0 (here at.0)))
    | inr was ↦ so.sound u was
  ];
  kept = λ u h. kept_up flags at.0 u (so.kept u h);
  added = λ u r below. elim (so.added u r below) [
    | inl up ↦ inl (kept_up flags at.0 u up)
    | inr on ↦ elim (left_above types at.0 u next is on) [
      | inl e ↦ inl (subst (λ (n : ℕ). slice_get (set flags at.0 true) n ≡ Some true) e (set_at flags at.0 true lt))
      | inr rest ↦ inr rest
    ]
  ];
}

pub marked_past : (types : List TypeRow) (t : ℕ) (at : TypeId) (next : Option TypeId) (old flags : List Bool) → length flags ≤ at.0 → IsNext types at.0 next → IsMarking types t (Some at) old flags → IsMarking types t next old flags
marked_past types t at next old flags le is so = record {
  long = so.long;
  chain = λ u r. so.chain u (left_on types at.0 u next is r);
  sound = so.sound;
  kept = so.kept;
  added = λ u r below. elim (so.added u r below) [
    | inl up ↦ inl up
    | inr on ↦ elim (left_above types at.0 u next is on) [
      | inl e ↦ let long = so.long in absurd (omega (arith, e, below, long, le))
      | inr rest ↦ inr rest
    ]
  ];
}

pub marking_ends : (types : List TypeRow) (t : ℕ) (old flags : List Bool) → IsMarking types t None old flags → Marks types (λ s. s ≡ t) old flags
marking_ends types t old flags so = record {
  long = so.long;
  sound = λ u h. elim (so.sound u h) [
    | inl was ↦ inl was
    | inr chain ↦ inr (t, refl, chain)
  ];
  kept = so.kept;
  added = λ s u e r lt. elim (so.added u (subst (λ (n : ℕ). InBaseChain types n u) e r) lt) [
    | inl up ↦ up
    | inr on ↦ absurd on
  ];
}

pub next_is_lower : (types : List TypeRow) (order : List ℕ) (at : TypeId) (next : Option TypeId) → IsAboveFirst (IsAbove types) (length types) order → IsNext types at.0 next → left_of types order next < left_of types order (Some at)
next_is_lower types order at None first none = omega arith
next_is_lower types order at (Some b) first is = let lower = lower_base types order at.0 b.0 first is in omega (arith, lower)

-- what `base_of` says of the next type
pub next_is : (types : List TypeRow) (at : ℕ) (next : Option TypeId) → IfSome next (λ b. IsBase types at b.0) → IfNone next ((b : ℕ) → IsBase types at b → ⊥) → IsNext types at next
next_is types at None some none = none
next_is types at (Some b) some none = some

-- the walk goes on, whether the type is there or not
pub marked_on : (types : List TypeRow) (t : ℕ) (at : TypeId) (next : Option TypeId) (old flags : List Bool) → IsNext types at.0 next → IsMarking types t (Some at) old flags → IsMarking types t next old (set flags at.0 true)
marked_on types t at next old flags is so = elim (cases_lt at.0 (length flags)) [
  | inl lt ↦ marked_here types t at next old flags lt is so
  | inr le ↦ subst (λ (fs : List Bool). IsMarking types t next old fs) (sym (set_past flags at.0 true le)) (marked_past types t at next old flags le is so)
]
