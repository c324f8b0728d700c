-- The regions of a body make a tree, or have one fault.
use Rattle.std.proofs.Common.{◌≡◌, ℕ, All, sym, ◌∙◌, ap, inl, inr}
use Rattle.std.proofs.lemmas.Bool.{cases_order}
use Rattle.cil_body.specs.declared.body.Body.{Body}
use Rattle.cil_instruction.specs.declared.instruction.Instr.{Instr}
use Rattle.cil_regions.specs.declared.region.RegionTree.{RegionTree}
use Rattle.cil_regions.specs.declared.region.RegionFault.{RegionFault}
use Rattle.cil_regions.specs.declared.region.RegionFault.TheVariants.{Nest, RethrowPlace, TooDeep}
use Rattle.cil_regions.specs.Region.{spans_of, CrossesAt, IsLooseAt, IsLeast, IsNested, IsBadNest, IsRethrowFine, IsBadRethrow, IsDeepAt, IsRegionTree, IsRegionFault}
use Rattle.dc_causes.proofs.First.{not_off, one_first}

one_least : (P : ℕ → Type 0) (p q : ℕ) → IsLeast P p → IsLeast P q → p ≡ q
one_least P p q a b =
    elim (cases_order p q) [
      | inl e ↦ e
      | inr w ↦ elim w [ inl less ↦ absurd (b.1 p less a.0) | inr less ↦ absurd (a.1 q less b.0) ]
    ]

nested_not : (body : Body) (place : ℕ) → IsNested body → IsBadNest body place → ⊥
nested_not body place n (inl w) = n.0 place w.0
nested_not body place n (inr w) = n.1 place w.1.0

one_nest : (body : Body) (p q : ℕ) → IsBadNest body p → IsBadNest body q → p ≡ q
one_nest body p q (inl a) (inl b) = one_least (CrossesAt (spans_of body)) p q a b
one_nest body p q (inl a) (inr b) = absurd (b.0 p a.0)
one_nest body p q (inr a) (inl b) = absurd (a.0 q b.0)
one_nest body p q (inr a) (inr b) = one_least (IsLooseAt body) p q a.1 b.1

one_rethrow : (body : Body) (p q : ℕ) → IsBadRethrow body p → IsBadRethrow body q → p ≡ q
one_rethrow body p q a b =
    let same = one_first (IsRethrowFine (spans_of body)) body.code a.0 b.0 a.1 b.1 in
    a.2 ∙ ap (λ (e : ℕ × Instr). e.0) same ∙ sym b.2

rethrow_not : (body : Body) (place : ℕ) → IsBadRethrow body place → All (IsRethrowFine (spans_of body)) body.code → ⊥
rethrow_not body place b all = not_off (IsRethrowFine (spans_of body)) body.code b.0 all b.1

pub tree_not : (body : Body) (tree : RegionTree) (fault : RegionFault) → IsRegionTree body tree → IsRegionFault body fault → ⊥
tree_not body tree (Nest p) t f = nested_not body p t.nested f
tree_not body tree (RethrowPlace p) t f = rethrow_not body p f.1 t.rethrows
tree_not body tree (TooDeep p) t f = t.shallow p f.2.0

pub one_fault : (body : Body) (f g : RegionFault) → IsRegionFault body f → IsRegionFault body g → f ≡ g
one_fault body (Nest p) (Nest q) a b = ap Nest (one_nest body p q a b)
one_fault body (Nest p) (RethrowPlace q) a b = absurd (nested_not body p b.0 a)
one_fault body (Nest p) (TooDeep q) a b = absurd (nested_not body p b.0 a)
one_fault body (RethrowPlace p) (Nest q) a b = absurd (nested_not body q a.0 b)
one_fault body (RethrowPlace p) (RethrowPlace q) a b = ap RethrowPlace (one_rethrow body p q a.1 b.1)
one_fault body (RethrowPlace p) (TooDeep q) a b = absurd (rethrow_not body p a.1 b.1)
one_fault body (TooDeep p) (Nest q) a b = absurd (nested_not body q a.0 b)
one_fault body (TooDeep p) (RethrowPlace q) a b = absurd (rethrow_not body q b.1 a.1)
one_fault body (TooDeep p) (TooDeep q) a b = ap TooDeep (one_least (IsDeepAt body) p q a.2 b.2)
