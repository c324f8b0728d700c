-- Rows of MethodSemantics, written down from the last to the first.
use Rattle.std.proofs.Common.{◌≡◌, ◌≢◌, ◌⊎◌, ℕ, zero, suc, ◌+◌, ◌-◌, ◌≤◌, Option, Some, None, List, [], ◌∷◌, length, replicate, inl, inr, sym, refl, ap, subst, ◌∙◌, arith}
use Rattle.std.proofs.Math.ListN.{set, length-set}
use Rattle.std.proofs.lemmas.Option.{slice_get_within}
use Rattle.std.specs.List.{slice_get}
use Rattle.cli_metadata.specs.declared.tables.Table.TheVariants as tables
use Rattle.cli_metadata.specs.Metadata.{Contents, rows_of}
use Rattle.cli_accessors.specs.declared.parts.Part.{Part}
use Rattle.cli_accessors.specs.Accessors.{semantics_at, property_of, IsAccessorOf, AreAccessors}
use Rattle.cli_accessors.specs.Put.{IsPut, IsBehind, IsOfBehind, AreBehind}

-- what stands at a place after a write: what was written, or what stood there
at_set : {X : Type 0} (xs : List X) (i : ℕ) (v : X) (j : ℕ) (y : X) → slice_get (set xs i v) j ≡ Some y → ((j ≡ i) × (y ≡ v)) ⊎ ((j ≢ i) × (slice_get xs j ≡ Some y))
at_set [] i v j y h = inr ((λ e. let k : Some y ≡ None = sym h in cc), h)
at_set (x ∷ xs) zero v zero y h = inl (refl, cc)
at_set (x ∷ xs) zero v (suc j) y h = inr ((λ e. omega arith), h)
at_set (x ∷ xs) (suc i) v zero y h = inr ((λ e. omega arith), h)
at_set (x ∷ xs) (suc i) v (suc j) y h =
    elim (at_set xs i v j y h) [
      | inl p ↦ inl (ap suc p.0, p.1)
      | inr p ↦ inr ((λ e. p.0 (omega arith)), p.1)
    ]

some_is : (a b : ℕ) → Some a ≡ Some b → a ≡ b
some_is a b e = cc

pub written : (p method : ℕ) (before : List (Option ℕ)) → 1 ≤ p → p ≤ length before → IsPut (Some p) method before (set before (p - 1) (Some method))
written p method before low high = record {
  long = length-set before (p - 1) (Some method);
  each = λ j found h. elim (at_set before (p - 1) (Some method) j found h) [
    | inl at ↦ inl (ap (λ (n : ℕ). Some n) (omega (arith, low, at.0)), at.1)
    | inr at ↦ inr ((λ e. let same : p ≡ j + 1 = some_is p (j + 1) e in at.0 (omega (arith, same))), at.1)
  ];
}

pub passed_over : (p method : ℕ) (before : List (Option ℕ)) → (1 ≤ p → p ≤ length before → ⊥) → IsPut (Some p) method before before
passed_over p method before none = record {
  long = refl;
  each = λ j found h. inr ((λ e. let lt = slice_get_within before j found h in let same : p ≡ j + 1 = some_is p (j + 1) e in none (omega (arith, same)) (omega (arith, same, lt))), h);
}

pub none_named : (method : ℕ) (before : List (Option ℕ)) → IsPut None method before before
none_named method before = record {
  long = refl;
  each = λ j found h. inr ((λ e. let none : None ≡ Some (j + 1) = e in absurd cc), h);
}

-- the row that was written down is the first one now
here : (m : Contents) (what : Part) (p r : ℕ) (found : Option ℕ) → 1 ≤ r → r ≤ rows_of m tables.MethodSemantics → property_of what (semantics_at m r) ≡ Some p → found ≡ Some (semantics_at m r).method → IsOfBehind m what p (r - 1) found
here m what p r found low high of is =
    subst (λ (o : Option ℕ). IsOfBehind m what p (r - 1) o) (sym is) (
      r,
      record {
        holds = record { is = record { low = low; high = high; of = of }; behind = omega (arith, low) };
        least = λ s lt at. omega (arith, lt, at.behind, low);
      },
      refl,
    )

cases_eq : (a b : ℕ) → (a ≡ b) ⊎ (a ≢ b)
cases_eq zero zero = inl refl
cases_eq zero (suc b) = inr (λ e. omega (arith, e))
cases_eq (suc a) zero = inr (λ e. omega (arith, e))
cases_eq (suc a) (suc b) = elim (cases_eq a b) [ inl e ↦ inl (ap suc e) | inr apart ↦ inr (λ e. apart (omega (arith, e))) ]

not_here : (m : Contents) (what : Part) (p r s : ℕ) → (property_of what (semantics_at m r) ≢ Some p) → IsBehind m what p (r - 1) s → IsBehind m what p r s
not_here m what p r s other at =
    record {
      is = at.is;
      behind = elim (cases_eq r s) [
        | inl e ↦ absurd (other (ap (λ (x : ℕ). property_of what (semantics_at m x)) e ∙ at.is.of))
        | inr apart ↦ (let a = at.behind in omega (arith, a, apart))
      ];
    }

elsewhere : (m : Contents) (what : Part) (p r : ℕ) (found : Option ℕ) → (property_of what (semantics_at m r) ≢ Some p) → IsOfBehind m what p r found → IsOfBehind m what p (r - 1) found
elsewhere m what p r None other none = λ s at. none s (not_here m what p r s other at)
elsewhere m what p r (Some method) other found = (
  found.0,
  record {
    holds = record { is = found.1.holds.is; behind = (let b = found.1.holds.behind in omega (arith, b)) };
    least = λ s lt at. found.1.least s lt (not_here m what p r s other at);
  },
  found.2,
)

pub one_more : (m : Contents) (what : Part) (r : ℕ) (before after : List (Option ℕ)) → 1 ≤ r → r ≤ rows_of m tables.MethodSemantics → AreBehind m what r before → IsPut (property_of what (semantics_at m r)) (semantics_at m r).method before after → AreBehind m what (r - 1) after
one_more m what r before after low high so put = record {
  long = put.long ∙ so.long;
  each = λ j found h. elim (put.each j found h) [
    | inl p ↦ here m what (j + 1) r found low high p.0 p.1
    | inr p ↦ elsewhere m what (j + 1) r found p.0 (so.each j found p.1)
  ];
}

at_replicate : {X : Type 0} (n k : ℕ) (x y : X) → slice_get (replicate n x) k ≡ Some y → x ≡ y
at_replicate zero k x y h = let e : None ≡ Some y = h in absurd cc
at_replicate (suc n) zero x y h = let e : Some x ≡ Some y = h in cc
at_replicate (suc n) (suc k) x y h = at_replicate n k x y h

replicate_long : {X : Type 0} (n : ℕ) (x : X) → length (replicate n x) ≡ n
replicate_long zero x = refl
replicate_long (suc n) x = ap suc (replicate_long n x)

pub none_yet : (m : Contents) (what : Part) → AreBehind m what (rows_of m tables.MethodSemantics) (replicate (rows_of m tables.Property) None)
none_yet m what = record {
  long = replicate_long (rows_of m tables.Property) None;
  each = λ j found h.
      subst (λ (o : Option ℕ). IsOfBehind m what (j + 1) (rows_of m tables.MethodSemantics) o) (at_replicate (rows_of m tables.Property) j None found h)
      (λ r at. (let b = at.behind in let t = at.is.high in omega (arith, b, t)));
}

all_of : (m : Contents) (what : Part) (p : ℕ) (found : Option ℕ) → IsOfBehind m what p 0 found → IsAccessorOf m what p found
all_of m what p None none = λ r at. none r (record { is = at; behind = (let l = at.low in omega (arith, l)) })
all_of m what p (Some method) found = (
  found.0,
  record {
    holds = found.1.holds.is;
    least = λ s lt at. found.1.least s lt (record { is = at; behind = (let l = at.low in omega (arith, l)) });
  },
  found.2,
)

pub all_accessors : (m : Contents) (what : Part) (found : List (Option ℕ)) → AreBehind m what 0 found → AreAccessors m what found
all_accessors m what found so = record {
  long = so.long;
  each = λ k method h. all_of m what (k + 1) method (so.each k method h);
}
