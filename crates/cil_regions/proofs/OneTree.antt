-- The regions of a body make one tree.
use Rattle.std.proofs.Common.{◌≡◌, ℕ, zero, suc, ◌<◌, Bool, true, false, ◌&&◌, ◌||◌, not, nat_lt, ◌==◌, List, length, get_or, AllPairs, IsTrue, refl, sym, ◌∙◌, ap, subst, inl, inr, arith}
use Rattle.std.proofs.lemmas.Bool.{cases_order, false≢true}
use Rattle.std.proofs.lemmas.Bool.Decides.{nat_tests}
use Rattle.std.proofs.lemmas.List.{ext_get_or}
use Rattle.std.proofs.lemmas.List.Sorted.{IsPermutation-sym, Contains-permutation}
use Rattle.cil_body.specs.declared.body.Body.{Body}
use Rattle.cil_regions.specs.declared.region.Region.{Region}
use Rattle.cil_regions.specs.declared.region.RegionTree.{RegionTree}
use Rattle.cil_regions.specs.declared.region.RegionKind.{RegionKind}
use Rattle.cil_regions.specs.declared.region.RegionKind.TheVariants.{Code}
use Rattle.cil_regions.specs.declared.region.Span.{Span}
use Rattle.cil_regions.specs.Region.{spans_of, is_try, lies_in, is_later, is_inside, IsParent, ComesBefore, IsNode, AreNodes, IsRegionTree}
use Rattle.dc_causes.proofs.SameLists.{IsStrict, same_lists, one_index}

any_node : Region
any_node = record { kind = Code; from = 0; to = 0; parent = 0 }

any_span : Span
any_span = record { kind = Code; from = 0; to = 0; first = 0 }

both_later : (a b : ℕ) (t u : Bool) → (nat_lt a b || ((a == b) && t && not u)) ≡ true → (nat_lt b a || ((b == a) && u && not t)) ≡ true → ⊥
both_later a b true true p q = grind (arith, nat_tests)
both_later a b true false p q = grind (arith, nat_tests)
both_later a b false true p q = grind (arith, nat_tests)
both_later a b false false p q = grind (arith, nat_tests)

both_hold : (p q l m : Bool) → (p && (not q || l)) ≡ true → (q && (not p || m)) ≡ true → (l ≡ true) × (m ≡ true)
both_hold true true l m a b = (a, b)
both_hold true false l m a b = absurd (false≢true b)
both_hold false true l m a b = absurd (false≢true a)
both_hold false false l m a b = absurd (false≢true a)

-- of two regions one alone stands inside the other
pub inside_strict : (r s : Span) → IsTrue (is_inside r s) → IsTrue (is_inside s r) → ⊥
inside_strict r s a b =
    let both = both_hold (lies_in r s) (lies_in s r) (is_later r s) (is_later s r) a b in
    both_later r.first s.first (is_try s.kind) (is_try r.kind) both.0 both.1

pub before_strict : IsStrict ComesBefore
before_strict r s (inl p) (inl q) = absurd (omega (arith, p, q))
before_strict r s (inl p) (inr q) = absurd (omega (arith, p, q.0))
before_strict r s (inr p) (inl q) = absurd (omega (arith, p.0, q))
before_strict r s (inr p) (inr q) = inside_strict s r p.1 q.1

-- a region has one parent
pub one_parent : (spans : List Span) (r p q : Span) → IsParent spans r p → IsParent spans r q → p ≡ q
one_parent spans r p q a b =
    elim (a.innermost q b.among b.inside) [
      | inl e ↦ sym e
      | inr v ↦ elim (b.innermost p a.among a.inside) [ inl e ↦ e | inr w ↦ absurd (inside_strict p q v w) ]
    ]

-- an element of ordered regions stands at one place
same_place : (spans : List Span) → AllPairs ComesBefore spans → (i j : ℕ) (r : Span) → i < length spans → j < length spans → get_or spans i r ≡ get_or spans j r → i ≡ j
same_place spans ordered i j r l m e =
    elim (cases_order i j) [
      | inl same ↦ same
      | inr w ↦ elim w [
        | inl less ↦ absurd (one_index ComesBefore before_strict spans ordered i j r r less m e)
        | inr less ↦ absurd (one_index ComesBefore before_strict spans ordered j i r r less l (sym e))
      ]
    ]

node_eq : (m n : Region) → m.kind ≡ n.kind → m.from ≡ n.from → m.to ≡ n.to → m.parent ≡ n.parent → m ≡ n
node_eq m n k f t p =
    let kind : m ≡ record { kind = n.kind; from = m.from; to = m.to; parent = m.parent } =
    ap (λ (x : RegionKind). record { kind = x; from = m.from; to = m.to; parent = m.parent }) k in
    let from : ◌≡◌ {A = Region} (record { kind = n.kind; from = m.from; to = m.to; parent = m.parent }) (record { kind = n.kind; from = n.from; to = m.to; parent = m.parent }) =
    ap (λ (x : ℕ). record { kind = n.kind; from = x; to = m.to; parent = m.parent }) f in
    let to : ◌≡◌ {A = Region} (record { kind = n.kind; from = n.from; to = m.to; parent = m.parent }) (record { kind = n.kind; from = n.from; to = n.to; parent = m.parent }) =
    ap (λ (x : ℕ). record { kind = n.kind; from = n.from; to = x; parent = m.parent }) t in
    let parent : ◌≡◌ {A = Region} (record { kind = n.kind; from = n.from; to = n.to; parent = m.parent }) n =
    ap (λ (x : ℕ). record { kind = n.kind; from = n.from; to = n.to; parent = x }) p in
    kind ∙ from ∙ to ∙ parent

-- under one number stands one node
same_parent : (spans : List Span) → AllPairs ComesBefore spans → (k : ℕ) (r : Span) (m n : Region) → k < length spans → IsNode spans k r m → IsNode spans k r n → m.parent ≡ n.parent
same_parent spans ordered zero r m n l a b = a.first refl ∙ sym (b.first refl)
same_parent spans ordered (suc k) r m n l a b =
    let p = a.parent (omega arith) in
    let q = b.parent (omega arith) in
    same_place spans ordered m.parent n.parent r (omega (arith, p.0)) (omega (arith, q.0))
    (one_parent spans r (get_or spans m.parent r) (get_or spans n.parent r) p.1 q.1)

same_node : (spans : List Span) → AllPairs ComesBefore spans → (k : ℕ) (r : Span) (m n : Region) → k < length spans → IsNode spans k r m → IsNode spans k r n → m ≡ n
same_node spans ordered k r m n l a b =
    node_eq m n (a.kind ∙ sym b.kind) (a.from ∙ sym b.from) (a.to ∙ sym b.to) (same_parent spans ordered k r m n l a b)

pub one_nodes : (body : Body) (m n : List Region) → AreNodes body m → AreNodes body n → m ≡ n
one_nodes body m n a b =
    let spans : a.spans ≡ b.spans =
    same_lists ComesBefore before_strict a.spans b.spans a.ordered b.ordered
    (λ z c. Contains-permutation (spans_of body) b.spans z b.all
    (Contains-permutation a.spans (spans_of body) z (IsPermutation-sym (spans_of body) a.spans a.all) c))
    (λ z c. Contains-permutation (spans_of body) a.spans z a.all
    (Contains-permutation b.spans (spans_of body) z (IsPermutation-sym (spans_of body) b.spans b.all) c)) in
    let nodes : (k : ℕ) (r : Span) (node : Region) → k < length a.spans → IsNode a.spans k (get_or a.spans k r) (get_or n k node) =
    subst (λ (ss : List Span). (k : ℕ) (r : Span) (node : Region) → k < length ss → IsNode ss k (get_or ss k r) (get_or n k node)) (sym spans) b.each in
    let long = ap (λ (ss : List Span). length ss) spans in
    let lengths : length m ≡ length n = a.as_many ∙ long ∙ sym b.as_many in
    ext_get_or any_node m n lengths
    (λ i l. same_node a.spans a.ordered i (get_or a.spans i any_span) (get_or m i any_node) (get_or n i any_node)
    (omega (arith, a.as_many)) (a.each i any_span any_node (omega (arith, a.as_many))) (nodes i any_span any_node (omega (arith, a.as_many))))

pub one_tree : (body : Body) (t u : RegionTree) → IsRegionTree body t → IsRegionTree body u → t ≡ u
one_tree body t u a b =
    ap (λ (nodes : List Region). record { nodes = nodes }) (one_nodes body t.nodes u.nodes a.nodes b.nodes)
