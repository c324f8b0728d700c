-- Sets of types: whether one lies in another, the set of all types of two, and how many a set lacks.
use Rattle.std.proofs.Common.{◌≡◌, ◌⊎◌, inl, inr, ℕ, zero, suc, ◌+◌, ◌<◌, ◌≤◌, Bool, List, [], ◌∷◌, length, refl, sym, subst, arith, rules}
use Rattle.std.proofs.lemmas.Bool.{cases_Bool, both_ways}
use Rattle.std.specs.Bool.{Decides}
use Rattle.std.specs.List.{Contains}
use Rattle.dc_base.specs.declared.ty.Ty.{Ty}
use Rattle.dc_base.specs.contracts.ty.TyPartialEq.TheImpl as ty_impl
use Rattle.verify_slots.specs.Slots.{IsSubset}
use Rattle.verify_narrower.specs.Narrower.{IsOnce}

pub same : Ty → Ty → Bool
same a b = (ty_impl.eq-value).it a b

same_tells : (a b : Ty) → Decides (same a b) (a ≡ b)
unfolding same
same_tells a b = search rules

pub at_head : {X : Type 0} (x : X) (xs : List X) → Contains (x ∷ xs) x
at_head x xs = (0, omega arith, refl)

pub behind : {X : Type 0} (y x : X) (xs : List X) → Contains xs x → Contains (y ∷ xs) x
behind y x xs has = let lt = has.1 in (suc has.0, omega (arith, lt), has.2)

pub nowhere : {X : Type 0} (x : X) → Contains [] x → ⊥
nowhere x has = let lt = has.1 in omega (arith, lt)

pub either : {X : Type 0} (y x : X) (xs : List X) → Contains (y ∷ xs) x → (y ≡ x) ⊎ Contains xs x
either y x xs (zero, lt, is) = inl is
either y x xs (suc k, lt, is) = inr (k, omega (arith, lt), is)

-- whether it stands in the set
pub in_or : (x : Ty) (ys : List Ty) → Contains ys x ⊎ (Contains ys x → ⊥)
in_or x [] = inr (nowhere x)
in_or x (y ∷ ys) =
    elim (cases_Bool (same y x)) [
      | inl yes_ ↦ inl (0, omega arith, (same_tells y x).0 yes_)
      | inr no_ ↦ elim (in_or x ys) [
        | inl there ↦ inl (behind y x ys there)
        | inr off ↦ inr (λ has. elim (either y x ys has) [ inl e ↦ both_ways (same y x) no_ ((same_tells y x).1 e) | inr rest ↦ off rest ])
      ]
    ]

-- the one set lies in the other, or has a type that isn't there
pub subset_or : (xs ys : List Ty) → IsSubset xs ys ⊎ ((x : Ty) × Contains xs x × (Contains ys x → ⊥))
subset_or [] ys = inl (λ x has. absurd (nowhere x has))
subset_or (x ∷ xs) ys =
    elim (in_or x ys) [
      | inr off ↦ inr (x, at_head x xs, off)
      | inl there ↦ elim (subset_or xs ys) [
        | inr more ↦ inr (more.0, behind x more.0 xs more.1, more.2)
        | inl all ↦ inl (λ z has. elim (either x z xs has) [ inl e ↦ subst (Contains ys) e there | inr rest ↦ all z rest ])
      ]
    ]

-- a set of all types of two, and of no others
pub record IsUnion (xs ys zs : List Ty) : Type 0 where
  pub left : IsSubset xs zs
  pub right : IsSubset ys zs
  pub least : (z : Ty) → Contains zs z → Contains xs z ⊎ Contains ys z
  pub once : IsOnce ys → IsOnce zs

pub union_of : (xs ys : List Ty) → (zs : List Ty) × IsUnion xs ys zs
union_of [] ys = (ys, record { left = λ x has. absurd (nowhere x has); right = λ x has. has; least = λ z has. inr has; once = λ o. o })
union_of (x ∷ xs) ys =
    let rest = union_of xs ys in
    let is = rest.1 in
    elim (in_or x rest.0) [
      | inl there ↦ (
        rest.0,
        record {
          left = λ z has. elim (either x z xs has) [ inl e ↦ subst (Contains rest.0) e there | inr tail ↦ is.left z tail ];
          right = is.right;
          least = λ z has. elim (is.least z has) [ inl a ↦ inl (behind x z xs a) | inr b ↦ inr b ];
          once = is.once;
        },
      )
      | inr off ↦ (
        x ∷ rest.0,
        record {
          left = λ z has. elim (either x z xs has) [ inl e ↦ subst (Contains (x ∷ rest.0)) e (at_head x rest.0) | inr tail ↦ behind x z rest.0 (is.left z tail) ];
          right = λ z has. behind x z rest.0 (is.right z has);
          least = λ z has. elim (either x z rest.0 has) [
            | inl e ↦ inl (subst (Contains (x ∷ xs)) e (at_head x xs))
            | inr tail ↦ elim (is.least z tail) [ inl a ↦ inl (behind x z xs a) | inr b ↦ inr b ]
          ];
          once = λ o. (off, is.once o);
        },
      )
    ]

-- how many of the one the other lacks
one_lack : {P : Type 0} → P ⊎ (P → ⊥) → ℕ
one_lack (inl there) = 0
one_lack (inr off) = 1

pub lacks : List Ty → List Ty → ℕ
lacks [] xs = 0
lacks (h ∷ hs) xs = one_lack (in_or h xs) + lacks hs xs

one_less : {P Q : Type 0} (p : P ⊎ (P → ⊥)) (q : Q ⊎ (Q → ⊥)) → (P → Q) → one_lack q ≤ one_lack p
unfolding one_lack
one_less (inl p) (inl q) f = omega arith
one_less (inl p) (inr q) f = absurd (q (f p))
one_less (inr p) (inl q) f = omega arith
one_less (inr p) (inr q) f = omega arith

one_gone : {P Q : Type 0} (p : P ⊎ (P → ⊥)) (q : Q ⊎ (Q → ⊥)) → (P → ⊥) → Q → one_lack q < one_lack p
unfolding one_lack
one_gone (inl p) q off on = absurd (off p)
one_gone (inr p) (inl q) off on = omega arith
one_gone (inr p) (inr q) off on = absurd (q on)

one_bound : {P : Type 0} (p : P ⊎ (P → ⊥)) → one_lack p ≤ 1
unfolding one_lack
one_bound (inl p) = omega arith
one_bound (inr p) = omega arith

pub lacks_bound : (hs xs : List Ty) → lacks hs xs ≤ length hs
unfolding lacks
lacks_bound [] xs = omega arith
lacks_bound (h ∷ hs) xs = let one = one_bound (in_or h xs) in let rest = lacks_bound hs xs in omega (arith, one, rest)

pub lacks_less : (hs xs ys : List Ty) → IsSubset xs ys → lacks hs ys ≤ lacks hs xs
unfolding lacks
lacks_less [] xs ys sub = omega arith
lacks_less (h ∷ hs) xs ys sub = let one = one_less (in_or h xs) (in_or h ys) (sub h) in let rest = lacks_less hs xs ys sub in omega (arith, one, rest)

pub lacks_fewer : (hs xs ys : List Ty) → IsSubset xs ys → (z : Ty) → Contains hs z → Contains ys z → (Contains xs z → ⊥) → lacks hs ys < lacks hs xs
unfolding lacks
lacks_fewer [] xs ys sub z has on off = absurd (nowhere z has)
lacks_fewer (h ∷ hs) xs ys sub z has on off =
    elim (either h z hs has) [
      | inl e ↦
          let one = one_gone (in_or h xs) (in_or h ys) (λ c. off (subst (Contains xs) e c)) (subst (Contains ys) (sym e) on) in
          let rest = lacks_less hs xs ys sub in
          omega (arith, one, rest)
      | inr tail ↦
          let one = one_less (in_or h xs) (in_or h ys) (sub h) in
          let rest = lacks_fewer hs xs ys sub z tail on off in
          omega (arith, one, rest)
    ]
