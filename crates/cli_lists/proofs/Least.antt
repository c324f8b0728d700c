-- The fault is one, and it is the least token.
use Rattle.std.proofs.Common.{◌≡◌, ℕ, ◌<◌, ◌≤◌, [], ◌∷◌, Err, inl, inr, sym, ap, arith}
use Rattle.std.proofs.lemmas.Bool.{cases_lt}
use Rattle.dc_base.specs.declared.names.Token.{Token}
use Rattle.dc_causes.specs.Step.{Test}
use Rattle.dc_causes.specs.Rows.{OfRow, OfRows}
use Rattle.dc_causes.specs.Causes.{InOrder}
use Rattle.dc_causes.proofs.Chain.{then_fault}
use Rattle.dc_causes.proofs.Single.{not_both, single-told, single-in_order, single-below, single-test}
use Rattle.cli_metadata.specs.Metadata.{Contents}
use Rattle.cli_lists.specs.declared.lists.Lists.{Lists}
use Rattle.cli_lists.specs.declared.owner.Owner.{Owner}
use Rattle.cli_lists.specs.declared.owner.Owner.TheVariants.{TypeDef, MethodDef, PropertyMap}
use Rattle.cli_lists.specs.Lists.{FewRows, lists_of, owners, BeginsLists, row_token}
use Rattle.cli_lists.specs.Laws.{HasOneAnswer, HasLeastToken}
use Rattle.cli_lists.proofs.Wrong.{all, few_owners}

pub one_answer : HasOneAnswer
one_answer lists =
    single-told row_token (OfRows owners BeginsLists lists all)
    (single-in_order (OfRow owners BeginsLists lists)
    (λ c. single-below (owners c lists) (λ row. Test (BeginsLists c lists row) (c, row)) (λ row. single-test _ _)) all)

-- an owner's first broken row
record IsBroken (lists : Lists) (owner : Owner) (p : Owner × ℕ) : Type 0 where
  its : p.0 ≡ owner
  within : p.1 < owners owner lists
  before : (k : ℕ) → k < p.1 → BeginsLists owner lists k

broken : (lists : Lists) (owner : Owner) (p : Owner × ℕ) → OfRow owners BeginsLists lists owner (Err p) → IsBroken lists owner p
broken lists owner p h =
    let same : h.0 ≡ p.1 = sym (ap (λ (q : Owner × ℕ). q.1) h.3.1) in
    record {
      its = ap (λ (q : Owner × ℕ). q.0) h.3.1;
      within = omega (arith, same, h.1);
      before = λ k lt. h.2 k (omega (arith, same, lt));
    }

-- the row is not before the first broken one of its owner
not_before : (lists : Lists) (owner : Owner) (p : Owner × ℕ) (k : ℕ) → IsBroken lists owner p → (BeginsLists owner lists k → ⊥) → p.1 ≤ k
not_before lists owner p k b off = elim (cases_lt k p.1) [
  | inl lt ↦ absurd (off (b.before k lt))
  | inr ge ↦ ge
]

number : (lists : Lists) (owner : Owner) (p : Owner × ℕ) → IsBroken lists owner p → (row_token p).0 ≡ (row_token (owner, p.1)).0
number lists owner p b = ap (λ (o : Owner). (row_token (o, p.1)).0) b.its

-- the rows of the tables before this one
abbrev Passed : Lists → Owner → Type 0
Passed lists TypeDef = Unit {0}
Passed lists MethodDef = (k : ℕ) → k < owners TypeDef lists → BeginsLists TypeDef lists k
Passed lists PropertyMap = ((k : ℕ) → k < owners TypeDef lists → BeginsLists TypeDef lists k) × ((k : ℕ) → k < owners MethodDef lists → BeginsLists MethodDef lists k)

-- where the first broken row is one of this owner, its token is the least
least_of : (m : Contents) (first owner : Owner) (p : Owner × ℕ) (k : ℕ) → FewRows m → IsBroken (lists_of m) first p → k < owners owner (lists_of m) → (BeginsLists owner (lists_of m) k → ⊥) → Passed (lists_of m) first → (row_token p).0 ≤ (row_token (owner, k)).0
least_of m TypeDef TypeDef p k few b lt off _ = omega (arith, number _ _ p b, not_before _ _ p k b off)
least_of m TypeDef MethodDef p k few b lt off _ = omega (arith, number _ _ p b, b.within, few_owners m TypeDef few)
least_of m TypeDef PropertyMap p k few b lt off _ = omega (arith, number _ _ p b, b.within, few_owners m TypeDef few)
least_of m MethodDef TypeDef p k few b lt off passed = absurd (off (passed k lt))
least_of m MethodDef MethodDef p k few b lt off _ = omega (arith, number _ _ p b, not_before _ _ p k b off)
least_of m MethodDef PropertyMap p k few b lt off _ = omega (arith, number _ _ p b, b.within, few_owners m MethodDef few)
least_of m PropertyMap TypeDef p k few b lt off passed = absurd (off (passed.0 k lt))
least_of m PropertyMap MethodDef p k few b lt off passed = absurd (off (passed.1 k lt))
least_of m PropertyMap PropertyMap p k few b lt off _ = omega (arith, number _ _ p b, not_before _ _ p k b off)

pub least : HasLeastToken
least m fault owner k few h lt off =
    let lists = lists_of m in
    let p : Owner × ℕ = h.0 in
    let Asked = OfRow owners BeginsLists lists in
    let token : fault.0 ≡ (row_token p).0 = ap (λ (t : Token). t.0) h.2 in
    let le : (row_token p).0 ≤ (row_token (owner, k)).0 = elim (then_fault (Asked TypeDef) (λ _. InOrder Asked (MethodDef ∷ PropertyMap ∷ [])) p h.1) [
      | inl types ↦ least_of m TypeDef owner p k few (broken lists TypeDef p types) lt off tt
      | inr rest ↦ elim (then_fault (Asked MethodDef) (λ _. InOrder Asked (PropertyMap ∷ [])) p rest.2) [
        | inl methods ↦ least_of m MethodDef owner p k few (broken lists MethodDef p methods) lt off rest.1
        | inr last ↦ elim (then_fault (Asked PropertyMap) (λ _. InOrder Asked []) p last.2) [
          | inl maps ↦ least_of m PropertyMap owner p k few (broken lists PropertyMap p maps) lt off (rest.1, last.1)
          | inr none ↦ absurd (not_both tt p (sym none.2))
        ]
      ]
    ] in
    omega (arith, token, le)
