-- The first item of which a fact doesn't hold is one, and so is the least number of which one does.
use Rattle.std.proofs.Common.{◌≡◌, ℕ, ◌<◌, List, length, take, get_or, All, sym, ◌∙◌, ap, subst, inl, inr, arith}
use Rattle.std.proofs.lemmas.List.{get_or_default, get_or-take, length-take}
use Rattle.std.proofs.lemmas.Bool.{cases_order}
use Rattle.dc_causes.specs.First.{IsFirstOff, IsLeast}

-- where the fact holds of each item, it fails of none
pub not_off : {X : Type 0} (P : X → Type 0) (xs : List X) (x : X) → All P xs → IsFirstOff P xs x → ⊥
not_off P xs x all f = f.off (subst P f.is (all f.index x f.within))

-- an item before the first one is no first one
earlier_not : {X : Type 0} (P : X → Type 0) (xs : List X) (x y : X) (f : IsFirstOff P xs x) (g : IsFirstOff P xs y) → f.index < g.index → ⊥
earlier_not P xs x y f g less = f.off (subst P f.is (g.before f.index x less))

-- the first items stand at one index
pub one_index : {X : Type 0} (P : X → Type 0) (xs : List X) (x y : X) (f : IsFirstOff P xs x) (g : IsFirstOff P xs y) → f.index ≡ g.index
one_index P xs x y f g =
    elim (cases_order f.index g.index) [
      | inl e ↦ e
      | inr w ↦ elim w [
        | inl less ↦ absurd (earlier_not P xs x y f g less)
        | inr less ↦ absurd (earlier_not P xs y x g f less)
      ]
    ]

-- and are one item
pub one_first : {X : Type 0} (P : X → Type 0) (xs : List X) (x y : X) → IsFirstOff P xs x → IsFirstOff P xs y → x ≡ y
one_first P xs x y f g =
    sym f.is ∙ get_or_default xs f.index x y f.within ∙ ap (λ (i : ℕ). get_or xs i y) (one_index P xs x y f g) ∙ g.is

-- the item at this index is the first one, where the fact holds of those before it
pub first_off : {X : Type 0} (P : X → Type 0) (xs : List X) (i : ℕ) (d : X) → i < length xs → All P (take i xs) → (P (get_or xs i d) → ⊥) → IsFirstOff P xs (get_or xs i d)
first_off {X} P xs i d l all off =
    record {
      index = i;
      within = l;
      is = get_or_default xs i (get_or xs i d) d l;
      before = λ k e lt.
          let long = length-take {A = X} i xs in
          subst P (get_or-take i xs k e lt) (all k e (omega arith));
      off = off;
    }

-- one number is the least
pub one_least : (P : ℕ → Type 0) (m n : ℕ) → IsLeast P m → IsLeast P n → m ≡ n
one_least P m n a b =
    elim (cases_order m n) [
      | inl e ↦ e
      | inr w ↦ elim w [
        | inl less ↦ absurd (b.least m less a.holds)
        | inr less ↦ absurd (a.least n less b.holds)
      ]
    ]
