-- Rows of Param, written down from the first to the last.
use Rattle.std.proofs.Common.{◌≡◌, ◌≢◌, ◌⊎◌, ℕ, zero, suc, ◌+◌, ◌-◌, ◌<◌, ◌≤◌, Option, Some, None, List, [], ◌∷◌, ◌++◌, length, length-append, replicate, inl, inr, sym, refl, ap, subst, ◌∙◌, arith}
use Rattle.std.proofs.Math.ListN.{set, length-set}
use Rattle.std.proofs.lemmas.Bool.{cases_lt}
use Rattle.std.proofs.lemmas.Option.{slice_get_within}
use Rattle.std.specs.List.{slice_get}
use Rattle.class_keys.proofs.Items.{pushed_item}
use Rattle.cli_metadata.specs.declared.tables.Table.TheVariants as tables
use Rattle.cli_metadata.specs.Metadata.{Contents, rows_of}
use Rattle.cli_lists.specs.declared.column.ListColumn.{ListColumn}
use Rattle.cli_lists.specs.Lists.{IsListColumn}
use Rattle.cli_lists.specs.Starts.{IsInList}
use Rattle.cli_params.specs.Params.{param_at, IsParamRow, IsNameIn, IsParamName, IsRow}
use Rattle.cli_params.specs.Put.{IsPut, IsBefore, AreBefore, AreParamRows}

-- what stands at a place after a write: what was written, or what stood there
at_set : {X : Type 0} (xs : List X) (i : ℕ) (v : X) (j : ℕ) (y : X) → slice_get (set xs i v) j ≡ Some y → ((j ≡ i) × (y ≡ v)) ⊎ ((j ≢ i) × (slice_get xs j ≡ Some y))
at_set [] i v j y h = inr ((λ e. let k : Some y ≡ None = sym h in cc), h)
at_set (x ∷ xs) zero v zero y h = inl (refl, cc)
at_set (x ∷ xs) zero v (suc j) y h = inr ((λ e. omega arith), h)
at_set (x ∷ xs) (suc i) v zero y h = inr ((λ e. omega arith), h)
at_set (x ∷ xs) (suc i) v (suc j) y h =
    elim (at_set xs i v j y h) [
      | inl p ↦ inl (ap suc p.0, p.1)
      | inr p ↦ inr ((λ e. p.0 (omega arith)), p.1)
    ]

pub written : (n r : ℕ) (before : List (Option ℕ)) → 1 ≤ n → slice_get before (n - 1) ≡ Some None → IsPut n r before (set before (n - 1) (Some r))
written n r before low none = record {
  long = length-set before (n - 1) (Some r);
  each = λ j found h. elim (at_set before (n - 1) (Some r) j found h) [
    | inl at ↦
        let same : n - 1 ≡ j = sym at.0 in
        inl (omega (arith, low, at.0), subst (λ (i : ℕ). slice_get before i ≡ Some None) same none, at.1)
    | inr at ↦ inr (at.1, (λ e is. at.0 (omega (arith, e))))
  ];
}

pub kept : (n r s : ℕ) (before : List (Option ℕ)) → 1 ≤ n → slice_get before (n - 1) ≡ Some (Some s) → IsPut n r before before
kept n r s before low some = record {
  long = refl;
  each = λ j found h. inr (
    h,
    (λ e is.
        let same : n - 1 ≡ j = omega (arith, e) in
        let other : Some found ≡ Some (Some s) = sym h ∙ subst (λ (i : ℕ). slice_get before i ≡ Some (Some s)) same some in
        cc),
  );
}

pub passed_over : (n r : ℕ) (before : List (Option ℕ)) → (1 ≤ n → n ≤ length before → ⊥) → IsPut n r before before
passed_over n r before none = record {
  long = refl;
  each = λ j found h. inr (h, (λ e is. let lt = slice_get_within before j found h in none (omega (arith, e)) (omega (arith, e, lt))));
}

at_replicate : {X : Type 0} (n k : ℕ) (x y : X) → slice_get (replicate n x) k ≡ Some y → x ≡ y
at_replicate zero k x y h = let e : None ≡ Some y = h in absurd cc
at_replicate (suc n) zero x y h = let e : Some x ≡ Some y = h in cc
at_replicate (suc n) (suc k) x y h = at_replicate n k x y h

replicate_long : {X : Type 0} (n : ℕ) (x : X) → length (replicate n x) ≡ n
replicate_long zero x = refl
replicate_long (suc n) x = ap suc (replicate_long n x)

pub none_yet : (m : Contents) (params : ListColumn) (k count start : ℕ) → ((r : ℕ) → IsInList params.rows params.cells k r → start ≤ r) → AreBefore m params k count start (replicate count None)
none_yet m params k count start from = record {
  long = replicate_long count None;
  each = λ j row h.
      subst (λ (o : Option ℕ). IsBefore m params k (j + 1) start o) (at_replicate count j None row h)
      (λ r lt at. (let le = from r at.listed in omega (arith, lt, le)));
}

here : (m : Contents) (params : ListColumn) (k i r : ℕ) (row : Option ℕ) → IsInList params.rows params.cells k r → (param_at m r).sequence ≡ i → IsBefore m params k i r None → row ≡ Some r → IsBefore m params k i (r + 1) row
here m params k i r row listed number none is =
    subst (λ (o : Option ℕ). IsBefore m params k i (r + 1) o) (sym is) (record {
      holds = record { listed = listed; number = number };
      least = λ s lt at. none s lt at;
    })

elsewhere : (m : Contents) (params : ListColumn) (k i r : ℕ) (row : Option ℕ) → ((param_at m r).sequence ≡ i → row ≡ None → ⊥) → IsBefore m params k i r row → IsBefore m params k i (r + 1) row
elsewhere m params k i r (Some s) other so = so
elsewhere m params k i r None other so = λ s lt at. elim (cases_lt s r) [
  | inl below ↦ so s below at
  | inr from ↦
      let same : s ≡ r = omega (arith, lt, from) in
      other (subst (λ (n : ℕ). (param_at m n).sequence ≡ i) same at.number) refl
]

pub one_more : (m : Contents) (params : ListColumn) (k count r : ℕ) (before after : List (Option ℕ)) → IsInList params.rows params.cells k r → AreBefore m params k count r before → IsPut (param_at m r).sequence r before after → AreBefore m params k count (r + 1) after
one_more m params k count r before after listed so put = record {
  long = put.long ∙ so.long;
  each = λ j row h. elim (put.each j row h) [
    | inl p ↦ here m params k (j + 1) r row listed p.0 (so.each j None p.1) p.2
    | inr p ↦ elsewhere m params k (j + 1) r row p.1 (so.each j row p.0)
  ];
}

all_of : (m : Contents) (params : ListColumn) (k i end : ℕ) (row : Option ℕ) → ((r : ℕ) → IsInList params.rows params.cells k r → r < end) → IsBefore m params k i end row → IsParamRow m params k i row
all_of m params k i end None within none = λ r at. none r (within r at.listed) at
all_of m params k i end (Some r) within found = found

pub all_rows : (m : Contents) (params : ListColumn) (k count end : ℕ) (found : List (Option ℕ)) → ((r : ℕ) → IsInList params.rows params.cells k r → r < end) → AreBefore m params k count end found → AreParamRows m params k count found
all_rows m params k count end found within so = record {
  long = so.long;
  each = λ j row h. all_of m params k (j + 1) end row within (so.each j row h);
}

pub is_row : (m : Contents) (params : ListColumn) (k r : ℕ) → IsListColumn params → params.rows ≡ rows_of m tables.Param → IsInList params.rows params.cells k r → IsRow m r
is_row m params k r column same listed =
    let start = column.starts k listed.low listed.high in
    let low = start.low in
    let from = listed.from in
    let within = listed.within in
    record { low = omega (arith, low, from); high = omega (arith, within, same) }

pub row_there : (m : Contents) (params : ListColumn) (k i : ℕ) (row : Option ℕ) → IsListColumn params → params.rows ≡ rows_of m tables.Param → IsParamRow m params k i row → (r : ℕ) → row ≡ Some r → IsRow m r
row_there m params k i None column same is r at = let none : None ≡ Some r = at in absurd cc
row_there m params k i (Some s) column same is r at =
    let equal : s ≡ r = cc in
    subst (λ (n : ℕ). IsRow m n) equal (is_row m params k s column same is.holds.listed)

-- the names of the first parameters
pub record AreFirst (m : Contents) (params : ListColumn) (k count : ℕ) (names : List (List ℕ)) : Type 0 where
  pub long : length names ≡ count
  pub each : (j : ℕ) (name : List ℕ) → slice_get names j ≡ Some name → IsParamName m params k (j + 1) name

pub name_more : (m : Contents) (params : ListColumn) (k count : ℕ) (names after : List (List ℕ)) (row : Option ℕ) (name : List ℕ) → IsParamRow m params k (count + 1) row → IsNameIn m row name → after ≡ names ++ (name ∷ []) → AreFirst m params k count names → AreFirst m params k (count + 1) after
name_more m params k count names after row name first is more so =
    let long = length-append names (name ∷ []) in
    record {
      long = ap (λ (xs : List (List ℕ)). length xs) more ∙ omega (arith, long, so.long);
      each = λ j other at. elim (pushed_item names name j other (subst (λ (xs : List (List ℕ)). slice_get xs j ≡ Some other) more at)) [
        | inl old ↦ so.each j other old
        | inr new ↦
            let same : count + 1 ≡ j + 1 = omega (arith, new.0, so.long) in
            subst (λ (xs : List ℕ). IsParamName m params k (j + 1) xs) (sym new.1) (subst (λ (n : ℕ). IsParamName m params k n name) same (record { row = row; first = first; named = is }))
      ];
    }
