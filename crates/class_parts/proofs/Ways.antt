-- The lists of numbers say what the rows say.
use Rattle.std.specs.Prelude.{Vec, IfOk, IfErr, option_map}
use Rattle.std.specs.declared.alloc.Global.{Global}
use Rattle.dc_base.specs.declared.failure.Or.{Or}
use Rattle.dc_base.specs.declared.failure.Or.TheVariants.{NoMemory, Fault}
use Rattle.std.proofs.Common.{◌≡◌, ◌⊎◌, ℕ, zero, suc, Result, Ok, Err, ◌+◌, ◌<◌, ◌≤◌, Option, Some, None, List, [], ◌∷◌, ◌++◌, length, map, min, inl, inr, sym, refl, ap, subst, ◌∙◌, arith}
use Rattle.std.proofs.lemmas.Bool.{cases_lt}
use Rattle.std.specs.List.{slice_get}
use Rattle.dc_base.specs.declared.names.TypeId.{TypeId}
use Rattle.class_chains.specs.Ends.{Ends, IsWay, IsFirstOpen, IsOpenAt, IsAboveFirst, ways_of}
use Rattle.class_chains.proofs.Transfer.{ends_in, above_first_in, first_open_in}
use Rattle.class_rows.specs.declared.row.TypeRow.{TypeRow}
use Rattle.class_rows.specs.Types.{HasType, IsBase, IsOuter, IsNamed, IsAbove, ChainsEnd}
use Rattle.class_parts.specs.Above.{number_of, numbers_above, numbers_round, fault_of_type, lesser_fault}
use Rattle.dc_causes.specs.Answer.{IsRefused}
use Rattle.class_parts.specs.Chains.{BothEnd, IsFirstCycle}

-- what stands in the mapped list is that of a row
of_row : (f : TypeRow → List ℕ) (types : List TypeRow) (t b : ℕ) → IsWay (map f types) t b → HasType types t (λ row. (k : ℕ) × (slice_get (f row) k ≡ Some b))
of_row f [] t b way = let e : None ≡ Some b = way.1 in cc
of_row f (row ∷ types) zero b way = record { row = row; stands = refl; is = way }
of_row f (row ∷ types) (suc t) b way = let h = of_row f types t b way in record { row = h.row; stands = h.stands; is = h.is }

from_row : (f : TypeRow → List ℕ) (types : List TypeRow) (t b : ℕ) (row : TypeRow) → slice_get types t ≡ Some row → (k : ℕ) → slice_get (f row) k ≡ Some b → IsWay (map f types) t b
from_row f [] t b row stands k h = let e : None ≡ Some row = stands in cc
from_row f (first ∷ types) zero b row stands k h = let e : first ≡ row = cc in (k, rw e h)
from_row f (first ∷ types) (suc t) b row stands k h = from_row f types t b row stands k h

-- the places of a number in the list of a row
in_number : (o : Option TypeId) (b k : ℕ) → slice_get (number_of o) k ≡ Some b → o ≡ Some (record { 0 = b })
in_number None b k h = let e : None ≡ Some b = h in cc
in_number (Some t) b zero h = let e : t.0 ≡ b = cc in ap (λ (n : ℕ). Some (record { 0 = n })) e
in_number (Some t) b (suc k) h = let e : None ≡ Some b = h in cc

in_map : (is : List TypeId) (b k : ℕ) → slice_get (map (λ (i : TypeId). i.0) is) k ≡ Some b → slice_get is k ≡ Some (record { 0 = b })
in_map [] b k h = let e : None ≡ Some b = h in cc
in_map (i ∷ is) b zero h = let k : Some i.0 ≡ Some b = h in let e : i.0 ≡ b = cc in ap (λ (n : ℕ). Some (record { 0 = n })) e
in_map (i ∷ is) b (suc k) h = in_map is b k h

some_number : (i : TypeId) (b : ℕ) → Some i ≡ Some (record { 0 = b }) → Some i.0 ≡ Some b
some_number i b h = ap (λ (o : Option TypeId). option_map (λ (t : TypeId). t.0) o) h

map_in : (is : List TypeId) (b k : ℕ) → slice_get is k ≡ Some (record { 0 = b }) → slice_get (map (λ (i : TypeId). i.0) is) k ≡ Some b
map_in [] b k h = let e : Option TypeId = None in let f : e ≡ Some (record { 0 = b }) = h in cc
map_in (i ∷ is) b zero h = some_number i b h
map_in (i ∷ is) b (suc k) h = map_in is b k h

in_above : (o : Option TypeId) (is : List TypeId) (b k : ℕ) → slice_get (number_of o ++ map (λ (i : TypeId). i.0) is) k ≡ Some b → (o ≡ Some (record { 0 = b })) ⊎ ((j : ℕ) × (slice_get is j ≡ Some (record { 0 = b })))
in_above None is b k h = inr (k, in_map is b k h)
in_above (Some t) is b zero h = let e : t.0 ≡ b = cc in inl (ap (λ (n : ℕ). Some (record { 0 = n })) e)
in_above (Some t) is b (suc k) h = inr (k, in_map is b k h)

above_base : (o : Option TypeId) (is : List TypeId) (b : ℕ) → o ≡ Some (record { 0 = b }) → slice_get (number_of o ++ map (λ (i : TypeId). i.0) is) 0 ≡ Some b
above_base o is b e = rw e refl

above_named : (o : Option TypeId) (is : List TypeId) (b k : ℕ) → slice_get is k ≡ Some (record { 0 = b }) → (j : ℕ) × (slice_get (number_of o ++ map (λ (i : TypeId). i.0) is) j ≡ Some b)
above_named None is b k h = (k, map_in is b k h)
above_named (Some t) is b k h = (suc k, map_in is b k h)

pub way_is_above : (types : List TypeRow) (t b : ℕ) → IsWay (map numbers_above types) t b → IsAbove types t b
way_is_above types t b way =
    let h = of_row numbers_above types t b way in
    elim (in_above h.row.base h.row.bases b h.is.0 h.is.1) [
      | inl e ↦ inl (record { row = h.row; stands = h.stands; is = e })
      | inr at ↦ inr (record { row = h.row; stands = h.stands; is = at })
    ]

pub above_is_way : (types : List TypeRow) (t b : ℕ) → IsAbove types t b → IsWay (map numbers_above types) t b
above_is_way types t b (inl base) = from_row numbers_above types t b base.row base.stands 0 (above_base base.row.base base.row.bases b base.is)
above_is_way types t b (inr named) =
    let at = above_named named.row.base named.row.bases b named.is.0 named.is.1 in
    from_row numbers_above types t b named.row named.stands at.0 at.1

pub way_is_outer : (types : List TypeRow) (t b : ℕ) → IsWay (map numbers_round types) t b → IsOuter types t b
way_is_outer types t b way =
    let h = of_row numbers_round types t b way in
    record { row = h.row; stands = h.stands; is = in_number h.row.outer b h.is.0 h.is.1 }

pub outer_is_way : (types : List TypeRow) (t b : ℕ) → IsOuter types t b → IsWay (map numbers_round types) t b
outer_is_way types t b outer =
    from_row numbers_round types t b outer.row outer.stands 0
    (let e = outer.is in subst (λ (o : Option TypeId). slice_get (number_of o) 0 ≡ Some b) (sym e) refl)

-- what a walk says of the lists is said of the types
ok_map : {A E : Type 0} (P Q : A → Type 0) → ((a : A) → P a → Q a) → (r : Result A E) → IfOk r P → IfOk r Q
ok_map P Q f (Ok a) h = f a h
ok_map P Q f (Err e) h = h

err_map : {A E : Type 0} (P Q : E → Type 0) → ((e : E) → P e → Q e) → (r : Result A E) → IfErr r P → IfErr r Q
err_map P Q f (Ok a) h = h
err_map P Q f (Err e) h = f e h

open_in : (up down : ℕ → ℕ → Type 0) → ((t b : ℕ) → down t b → up t b) → ((t b : ℕ) → up t b → down t b) → (e : Or ℕ) → IsOpenAt up e → IsOpenAt down e
open_in up down narrower wider NoMemory first = tt
open_in up down narrower wider (Fault t) first = first_open_in up down narrower wider t first

module _ (up down : ℕ → ℕ → Type 0) (narrower : (t b : ℕ) → down t b → up t b) (wider : (t b : ℕ) → up t b → down t b) (bound : ℕ) (r : Result (Vec ℕ Global) (Or ℕ)) where
  pub all_end_in : IfOk r (λ order. (t : ℕ) → Ends up t) → IfOk r (λ order. (t : ℕ) → Ends down t)
  all_end_in = ok_map _ _ (λ order all t. ends_in up down narrower t (all t)) r

  pub orders_in : IfOk r (λ order. IsAboveFirst up bound order.items) → IfOk r (λ order. IsAboveFirst down bound order.items)
  orders_in = ok_map _ _ (λ order first. above_first_in up down narrower bound order.items first) r

  pub opens_in : IfErr r (IsOpenAt up) → IfErr r (IsOpenAt down)
  opens_in = err_map _ _ (open_in up down narrower wider) r

-- just the chains of outer types are open, just those of bases, or both
pub cycle_of_outer : (types : List TypeRow) (t : ℕ) → ((s : ℕ) → Ends (IsAbove types) s) → IsFirstOpen (IsOuter types) t → IsFirstCycle types (record { 0 = t })
cycle_of_outer types t all first = record {
  cycle = λ both. first.open_ both.1;
  before = λ s lt. (all s, first.before s lt);
}

pub cycle_of_base : (types : List TypeRow) (t : ℕ) → ((s : ℕ) → Ends (IsOuter types) s) → IsFirstOpen (IsAbove types) t → IsFirstCycle types (record { 0 = t })
cycle_of_base types t all first = record {
  cycle = λ both. first.open_ both.0;
  before = λ s lt. (first.before s lt, all s);
}

pub cycle_of_both : (types : List TypeRow) (b o : ℕ) → IsFirstOpen (IsAbove types) b → IsFirstOpen (IsOuter types) o → IsFirstCycle types (record { 0 = min b o })
cycle_of_both types b o base outer = record {
  cycle = λ both. elim (cases_lt b o) [
    | inl lt ↦ let e : min b o ≡ b = omega arith in base.open_ (subst (λ (t : ℕ). Ends (IsAbove types) t) e both.0)
    | inr le ↦ let e : min b o ≡ o = omega arith in outer.open_ (subst (λ (t : ℕ). Ends (IsOuter types) t) e both.1)
  ];
  before = λ s lt. (base.before s (omega arith), outer.before s (omega arith));
}

-- the same of what the two walks answered
pub outer_failed : (types : List TypeRow) (outer : Or ℕ) → ((s : ℕ) → Ends (IsAbove types) s) → IsOpenAt (IsOuter types) outer → IsRefused (IsFirstCycle types) (fault_of_type outer)
outer_failed types NoMemory all first = tt
outer_failed types (Fault o) all first = cycle_of_outer types o all first

pub base_failed : (types : List TypeRow) (base : Or ℕ) → ((s : ℕ) → Ends (IsOuter types) s) → IsOpenAt (IsAbove types) base → IsRefused (IsFirstCycle types) (fault_of_type base)
base_failed types NoMemory all first = tt
base_failed types (Fault b) all first = cycle_of_base types b all first

pub both_failed : (types : List TypeRow) (base outer : Or ℕ) → IsOpenAt (IsAbove types) base → IsOpenAt (IsOuter types) outer → IsRefused (IsFirstCycle types) (fault_of_type (lesser_fault base outer))
both_failed types NoMemory outer p q = tt
both_failed types (Fault b) NoMemory p q = tt
both_failed types (Fault b) (Fault o) p q = cycle_of_both types b o p q
