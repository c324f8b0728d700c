use Rattle.std.proofs.Common.{ℕ, sym, subst, inl, inr, refl, arith}
use Rattle.std.proofs.lemmas.Bool.{false≢true}
use Rattle.class_rows.specs.Lookups.{IsAssignable, brackets}
use Rattle.class_assign.proofs.Ways.{array_to, array_back, elements_to, elements_back, same_brackets}
use Rattle.class_assign.proofs.arrays.+goes_brackets.Goals as goal

pub returns-then-to_count-eq0-2-clause-yes : goal.returns-then-to_count-eq0-2-clause-yes
returns-then-to_count-eq0-2-clause-yes t c = λ h.
    let P : ℕ → Type 0 = λ n. IsAssignable c.args.types.now (brackets c.args.from c.args.count) (brackets c.args.to n) in
    subst P (sym c.if-to_count-eq0-2.true) (array_to c.args.types.now c.args.from c.args.count c.args.supers.now.array.0 (brackets c.args.to 0) (omega arith) c.requires.array.is (c.goes_core-then-to_count-eq0-2.ensures.yes h))

pub returns-then-to_count-eq0-2-clause-no : goal.returns-then-to_count-eq0-2-clause-no
returns-then-to_count-eq0-2-clause-no t c = λ h.
    let P : ℕ → Type 0 = λ n. IsAssignable c.args.types.now (brackets c.args.from c.args.count) (brackets c.args.to n) in
    c.goes_core-then-to_count-eq0-2.ensures.no (array_back c.args.types.now c.args.from c.args.to c.args.count c.args.supers.now.array.0 (omega arith) c.requires.array (subst P c.if-to_count-eq0-2.true h))

pub returns-then-is_same_array-clause-yes : goal.returns-then-is_same_array-clause-yes
returns-then-is_same_array-clause-yes t c = λ h. let e = c.if-is_same_array.ensures.yes h in same_brackets c.args.types.now c.args.from c.args.to c.args.count c.args.to_count e

pub returns-then-are_references-clause-yes : goal.returns-then-are_references-clause-yes
returns-then-are_references-clause-yes t c = λ h. let refs = c.if-are_references.ensures.yes refl in
    elements_to c.args.types.now c.args.from c.args.to c.args.count c.args.to_count (omega arith) (omega arith) refs.0 refs.1 (c.goes_brackets.ensures.yes h)

pub returns-then-are_references-clause-no : goal.returns-then-are_references-clause-no
returns-then-are_references-clause-no t c = λ h. elim (elements_back c.args.types.now c.args.from c.args.to c.args.count c.args.to_count (omega arith) (omega arith) h) [
  | inl e ↦ absurd (false≢true (c.if-is_same_array.ensures.no e))
  | inr k ↦ c.goes_brackets.ensures.no k.goes
]

pub returns-else-are_references-clause-no : goal.returns-else-are_references-clause-no
returns-else-are_references-clause-no t c = λ h. elim (elements_back c.args.types.now c.args.from c.args.to c.args.count c.args.to_count (omega arith) (omega arith) h) [
  | inl e ↦ absurd (false≢true (c.if-is_same_array.ensures.no e))
  | inr k ↦ c.if-are_references.ensures.no (k.from_, k.to_)
]
