-- Rows of NestedClass, written down from the last to the first.
use Rattle.std.proofs.Common.{◌≡◌, ◌≢◌, ◌⊎◌, ℕ, zero, suc, ◌+◌, ◌-◌, ◌≤◌, Option, Some, None, List, [], ◌∷◌, length, replicate, inl, inr, sym, refl, ap, subst, ◌∙◌, arith}
use Rattle.std.proofs.Math.ListN.{set, length-set}
use Rattle.std.proofs.lemmas.Option.{slice_get_within}
use Rattle.std.specs.List.{slice_get}
use Rattle.cli_metadata.specs.declared.tables.Table.TheVariants as tables
use Rattle.cli_metadata.specs.Metadata.{Contents, rows_of}
use Rattle.cli_tables.specs.declared.types.NestedClassRow.{NestedClassRow}
use Rattle.cli_names.specs.Outers.{nesting, IsOuterRow, AreOuters, IsPut, IsNestingBehind, IsOuterBehind, AreOutersBehind}

-- what stands at a place after a write: what was written, or what stood there
at_set : {X : Type 0} (xs : List X) (i : ℕ) (v : X) (j : ℕ) (y : X) → slice_get (set xs i v) j ≡ Some y → ((j ≡ i) × (y ≡ v)) ⊎ ((j ≢ i) × (slice_get xs j ≡ Some y))
at_set [] i v j y h = inr ((λ e. let k : Some y ≡ None = sym h in cc), h)
at_set (x ∷ xs) zero v zero y h = inl (refl, cc)
at_set (x ∷ xs) zero v (suc j) y h = inr ((λ e. omega arith), h)
at_set (x ∷ xs) (suc i) v zero y h = inr ((λ e. omega arith), h)
at_set (x ∷ xs) (suc i) v (suc j) y h =
    elim (at_set xs i v j y h) [
      | inl p ↦ inl (ap suc p.0, p.1)
      | inr p ↦ inr ((λ e. p.0 (omega arith)), p.1)
    ]

pub written : (row : NestedClassRow) (before : List (Option ℕ)) → 1 ≤ row.nested → row.nested ≤ length before → IsPut row before (set before (row.nested - 1) (Some row.enclosing))
written row before low high = record {
  long = length-set before (row.nested - 1) (Some row.enclosing);
  each = λ j outer h. elim (at_set before (row.nested - 1) (Some row.enclosing) j outer h) [
    | inl p ↦ inl ((omega (arith, low, p.0)), p.1)
    | inr p ↦ inr ((λ e. p.0 (omega (arith, e))), p.1)
  ];
}

pub passed_over : (row : NestedClassRow) (before : List (Option ℕ)) → (1 ≤ row.nested → row.nested ≤ length before → ⊥) → IsPut row before before
passed_over row before none = record {
  long = refl;
  each = λ j outer h. inr ((λ e. let lt = slice_get_within before j outer h in none (omega (arith, e)) (omega (arith, e, lt))), h);
}

-- the row that was written down is the first one now
here : (m : Contents) (n r : ℕ) (outer : Option ℕ) → 1 ≤ r → r ≤ rows_of m tables.NestedClass → (nesting m r).nested ≡ n → outer ≡ Some (nesting m r).enclosing → IsOuterBehind m n (r - 1) outer
here m n r outer low high nested is =
    subst (λ (o : Option ℕ). IsOuterBehind m n (r - 1) o) (sym is) (
      r,
      record {
        holds = record { nesting = record { low = low; high = high; nested = nested }; behind = omega (arith, low) };
        least = λ s lt at. omega (arith, lt, at.behind, low);
      },
      refl,
    )

cases_eq : (a b : ℕ) → (a ≡ b) ⊎ (a ≢ b)
cases_eq zero zero = inl refl
cases_eq zero (suc b) = inr (λ e. omega (arith, e))
cases_eq (suc a) zero = inr (λ e. omega (arith, e))
cases_eq (suc a) (suc b) = elim (cases_eq a b) [ inl e ↦ inl (ap suc e) | inr apart ↦ inr (λ e. apart (omega (arith, e))) ]

not_here : (m : Contents) (n r s : ℕ) → ((nesting m r).nested ≢ n) → IsNestingBehind m n (r - 1) s → IsNestingBehind m n r s
not_here m n r s other at =
    record {
      nesting = at.nesting;
      behind = elim (cases_eq r s) [
        | inl e ↦ absurd (other (ap (λ (x : ℕ). (nesting m x).nested) e ∙ at.nesting.nested))
        | inr apart ↦ (let a = at.behind in omega (arith, a, apart))
      ];
    }

elsewhere : (m : Contents) (n r : ℕ) (outer : Option ℕ) → ((nesting m r).nested ≢ n) → IsOuterBehind m n r outer → IsOuterBehind m n (r - 1) outer
elsewhere m n r None other none = λ s at. none s (not_here m n r s other at)
elsewhere m n r (Some outer) other found = (
  found.0,
  record {
    holds = record { nesting = found.1.holds.nesting; behind = (let b = found.1.holds.behind in omega (arith, b)) };
    least = λ s lt at. found.1.least s lt (not_here m n r s other at);
  },
  found.2,
)

pub one_more : (m : Contents) (r : ℕ) (before after : List (Option ℕ)) → 1 ≤ r → r ≤ rows_of m tables.NestedClass → AreOutersBehind m r before → IsPut (nesting m r) before after → AreOutersBehind m (r - 1) after
one_more m r before after low high so put = record {
  long = put.long ∙ so.long;
  each = λ j outer h. elim (put.each j outer h) [
    | inl p ↦ here m (j + 1) r outer low high p.0 p.1
    | inr p ↦ elsewhere m (j + 1) r outer p.0 (so.each j outer p.1)
  ];
}

at_replicate : {X : Type 0} (n k : ℕ) (x y : X) → slice_get (replicate n x) k ≡ Some y → x ≡ y
at_replicate zero k x y h = let e : None ≡ Some y = h in absurd cc
at_replicate (suc n) zero x y h = let e : Some x ≡ Some y = h in cc
at_replicate (suc n) (suc k) x y h = at_replicate n k x y h

replicate_long : {X : Type 0} (n : ℕ) (x : X) → length (replicate n x) ≡ n
replicate_long zero x = refl
replicate_long (suc n) x = ap suc (replicate_long n x)

pub none_yet : (m : Contents) → AreOutersBehind m (rows_of m tables.NestedClass) (replicate (rows_of m tables.TypeDef) None)
none_yet m = record {
  long = replicate_long (rows_of m tables.TypeDef) None;
  each = λ j outer h.
      subst (λ (o : Option ℕ). IsOuterBehind m (j + 1) (rows_of m tables.NestedClass) o) (at_replicate (rows_of m tables.TypeDef) j None outer h)
      (λ r at. (let b = at.behind in let t = at.nesting.high in omega (arith, b, t)));
}

all_of : (m : Contents) (n : ℕ) (outer : Option ℕ) → IsOuterBehind m n 0 outer → IsOuterRow m n outer
all_of m n None none = λ r at. none r (record { nesting = at; behind = (let l = at.low in omega (arith, l)) })
all_of m n (Some outer) found = (
  found.0,
  record {
    holds = found.1.holds.nesting;
    least = λ s lt at. found.1.least s lt (record { nesting = at; behind = (let l = at.low in omega (arith, l)) });
  },
  found.2,
)

pub all_outers : (m : Contents) (outers : List (Option ℕ)) → AreOutersBehind m 0 outers → AreOuters m outers
all_outers m outers so = record {
  long = so.long;
  each = λ k outer h. all_of m (k + 1) outer (so.each k outer h);
}
