-- A walk up the base chain to a type or to one of its interfaces.
use Rattle.std.proofs.Common.{◌≡◌, ◌⊎◌, ℕ, List, inl, inr, sym, subst}
use Rattle.class_chains.specs.Ends.{here, further}
use Rattle.class_parts.proofs.Climb.{one_base, reached}
use Rattle.class_rows.specs.declared.row.TypeRow.{TypeRow}
use Rattle.class_rows.specs.Types.{IsBase, IsSuper, InBaseChain, NamesInterface}

-- this type, or one of the interfaces that it names
abbrev pub IsNear : List TypeRow → ℕ → ℕ → Type 0
IsNear types t a = (t ≡ a) ⊎ NamesInterface types t a

pub near_above : (types : List TypeRow) (t a : ℕ) → IsNear types t a → IsSuper types t a
near_above types t a (inl e) = inl (subst (λ (n : ℕ). InBaseChain types t n) e (here t))
near_above types t a (inr named) = inr (t, here t, named)

-- what is above a type is near it, or above its base
above_cases : (types : List TypeRow) (t a : ℕ) → IsSuper types t a → IsNear types t a ⊎ ((b : ℕ) × IsBase types t b × IsSuper types b a)
above_cases types t a (inl chain) = elim (reached (IsBase types) t a chain) [
  | inl e ↦ inl (inl e)
  | inr s ↦ inr (s.0, s.1, inl s.2)
]
above_cases types t a (inr named) = elim (reached (IsBase types) t named.0 named.1) [
  | inl e ↦ inl (inr (subst (λ (n : ℕ). NamesInterface types n a) (sym e) named.2))
  | inr s ↦ inr (s.0, s.1, inr (named.0, s.2, named.2))
]

above_base : (types : List TypeRow) (t b a : ℕ) → IsBase types t b → IsSuper types b a → IsSuper types t a
above_base types t b a base (inl chain) = inl (further t b a base chain)
above_base types t b a base (inr named) = inr (named.0, further t b named.0 base named.1, named.2)

-- the walk from t stands here
pub record IsOnWay (types : List TypeRow) (t a at : ℕ) : Type 0 where
  pub to_ : IsSuper types at a → IsSuper types t a
  pub back : IsSuper types t a → IsSuper types at a

pub way_begins : (types : List TypeRow) (t a : ℕ) → IsOnWay types t a t
way_begins types t a = record { to_ = λ s. s; back = λ s. s }

pub way_on : (types : List TypeRow) (t a at b : ℕ) → IsOnWay types t a at → (IsNear types at a → ⊥) → IsBase types at b → IsOnWay types t a b
way_on types t a at b way off base = record {
  to_ = λ s. way.to_ (above_base types at b a base s);
  back = λ s. elim (above_cases types at a (way.back s)) [
    | inl near ↦ absurd (off near)
    | inr k ↦ subst (λ (n : ℕ). IsSuper types n a) (one_base types at k.0 b k.1 base) k.2
  ];
}

pub way_ends : (types : List TypeRow) (t a at : ℕ) → IsOnWay types t a at → (IsNear types at a → ⊥) → ((b : ℕ) → IsBase types at b → ⊥) → IsSuper types t a → ⊥
way_ends types t a at way off top s = elim (above_cases types at a (way.back s)) [
  | inl near ↦ off near
  | inr k ↦ top k.0 k.1
]
