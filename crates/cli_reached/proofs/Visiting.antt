-- One more row is visited.
use Rattle.std.proofs.Common.{◌≡◌, ◌⊎◌, ℕ, ◌+◌, ◌<◌, ◌++◌, Bool, true, false, cond, not, List, [], ◌∷◌, length, get_or, set, count_by, refl, sym, ◌∙◌, ap, subst, inl, inr, arith, length-append, length-set, get_or-set_same, get_or-set_other}
use Rattle.std.proofs.lemmas.List.{get_or_push, get_or_append_left}
use Rattle.std.proofs.lemmas.List.Sums.{sum_by-set}
use Rattle.std.proofs.lemmas.Bool.{cases_lt, cases_eq}
use Rattle.cli_reached.specs.Visited.{IsAmong, IsIn, AreWithin, IsMarked, AreVisited}

count_not-set : (marks : List Bool) (i : ℕ) → i < length marks → get_or marks i false ≡ false → count_by not (set marks i true) + 1 ≡ count_by not marks
count_not-set marks i lt off =
    let changed = sum_by-set (λ b. cond (not b) 1 0) marks i true false lt in
    let weight : Bool → ℕ = λ b. cond (not b) 1 0 in
    let was : weight (get_or marks i false) ≡ weight false = ap weight off in
    omega (arith, changed, was)

-- what stands in a list stands in it behind a push too
pub in_push : (rows : List ℕ) (y row : ℕ) → IsIn rows row → IsIn (rows ++ y ∷ []) row
in_push rows y row (k, lt, is) = (k, omega (arith, length-append rows (y ∷ [])), get_or_append_left rows (y ∷ []) 0 k lt ∙ is)

pub in_last : (rows : List ℕ) (y : ℕ) → IsIn (rows ++ y ∷ []) y
in_last rows y = (length rows, omega (arith, length-append rows (y ∷ [])), get_or_push rows y 0 (length rows) refl)

pub from_push : (rows : List ℕ) (y row : ℕ) → IsIn (rows ++ y ∷ []) row → IsIn rows row ⊎ (row ≡ y)
from_push rows y row (k, lt, is) =
    elim (cases_lt k (length rows)) as (λ _. IsIn rows row ⊎ (row ≡ y)) [
      | inl below ↦ inl (k, below, sym (get_or_append_left rows (y ∷ []) 0 k below) ∙ is)
      | inr above ↦
          let last : k ≡ length rows = omega (arith, length-append rows (y ∷ [])) in
          inr (sym is ∙ (ap (λ i. get_or (rows ++ y ∷ []) i 0) last ∙ get_or_push rows y 0 (length rows) refl))
    ]

within_push : (rows : List ℕ) (y bound : ℕ) → AreWithin bound rows → y < bound → AreWithin bound (rows ++ y ∷ [])
within_push rows y bound within lt k at =
    elim (cases_lt k (length rows)) as (λ _. get_or (rows ++ y ∷ []) k 0 < bound) [
      | inl below ↦ omega (arith, get_or_append_left rows (y ∷ []) 0 k below, within k below)
      | inr above ↦
          let last : length rows ≡ k = omega (arith, length-append rows (y ∷ [])) in
          omega (arith, get_or_push rows y 0 k last)
    ]

last : (j k : ℕ) → j < k + 1 → (j < k) ⊎ (j ≡ k)
last j k lt = elim (cases_lt j k) as (λ _. (j < k) ⊎ (j ≡ k)) [ inl below ↦ inl below | inr above ↦ inr (omega arith) ]

one_more : (i : ℕ) (rows : List ℕ) (row : ℕ) → IsAmong i rows row → IsAmong (i + 1) rows row
one_more i rows row (k, lt, is) = (k, omega arith, is)

set_row : (marks : List Bool) (row : ℕ) → row < length marks → IsMarked (set marks row true) row
set_row marks row lt = get_or-set_same marks row true false lt

set_keeps : (marks : List Bool) (row n : ℕ) → row < length marks → IsMarked marks n → IsMarked (set marks row true) n
set_keeps marks row n lt marked =
    elim (cases_eq n row) as (λ _. IsMarked (set marks row true) n) [
      | inl is ↦ let P : ℕ → Type 0 = λ k. IsMarked (set marks row true) k in subst P (sym is) (set_row marks row lt)
      | inr other ↦ rw get_or-set_other marked
    ]

set_only : (marks : List Bool) (row n : ℕ) → IsMarked (set marks row true) n → (n ≡ row) ⊎ IsMarked marks n
set_only marks row n marked =
    elim (cases_eq n row) as (λ _. (n ≡ row) ⊎ IsMarked marks n) [
      | inl is ↦ inl is
      | inr other ↦ inr (rw get_or-set_other at marked)
    ]

pub begin : (rows : List ℕ) (before : List Bool) (todo : List ℕ) → AreWithin (length before) todo → AreVisited 0 rows before todo before todo
begin rows before todo within = record {
  as_many = refl;
  kept = λ row marked. marked;
  marked = λ k lt _. absurd (omega arith);
  only = λ row marked. inl marked;
  todo_kept = λ row is. is;
  todo_new = λ row marked. inl marked;
  todo_only = λ row is. inl is;
  within = within;
  sum = refl;
}

-- the row is none, or it is marked already
pub old_row : (i : ℕ) (rows : List ℕ) (before : List Bool) (todo_before : List ℕ) (marks : List Bool) (todo : List ℕ)
    → AreVisited i rows before todo_before marks todo
    → (get_or rows i 0 < length before → IsMarked marks (get_or rows i 0))
    → AreVisited (i + 1) rows before todo_before marks todo
old_row i rows before todo_before marks todo v marked = record {
  as_many = v.as_many;
  kept = v.kept;
  marked = λ k lt within.
      elim (last k i lt) as (λ _. IsMarked marks (get_or rows k 0)) [
        | inl below ↦ v.marked k below within
        | inr is ↦
            let P : ℕ → Type 0 = λ n. get_or rows n 0 < length before → IsMarked marks (get_or rows n 0) in
            subst P (sym is) marked within
      ];
  only = λ row is.
      elim (v.only row is) as (λ _. IsMarked before row ⊎ IsAmong (i + 1) rows row) [
        | inl old ↦ inl old
        | inr among ↦ inr (one_more i rows row among)
      ];
  todo_kept = v.todo_kept;
  todo_new = v.todo_new;
  todo_only = v.todo_only;
  within = v.within;
  sum = v.sum;
}

-- the row wasn't marked
pub new_row : (i row : ℕ) (rows : List ℕ) (before : List Bool) (todo_before : List ℕ) (marks : List Bool) (todo : List ℕ)
    → AreVisited i rows before todo_before marks todo
    → get_or rows i 0 ≡ row → row < length marks → get_or marks row false ≡ false
    → AreVisited (i + 1) rows before todo_before (set marks row true) (todo ++ row ∷ [])
new_row i row rows before todo_before marks todo v at within off = record {
  as_many = length-set marks row true ∙ v.as_many;
  kept = λ n marked. set_keeps marks row n within (v.kept n marked);
  marked = λ k lt below_.
      elim (last k i lt) as (λ _. IsMarked (set marks row true) (get_or rows k 0)) [
        | inl below ↦ set_keeps marks row (get_or rows k 0) within (v.marked k below below_)
        | inr is ↦
            let P : ℕ → Type 0 = λ n. IsMarked (set marks row true) n in
            subst P (sym (ap (λ j. get_or rows j 0) is ∙ at)) (set_row marks row within)
      ];
  only = λ n is.
      elim (set_only marks row n is) as (λ _. IsMarked before n ⊎ IsAmong (i + 1) rows n) [
        | inl same ↦ inr (i, omega arith, at ∙ sym same)
        | inr old ↦
            elim (v.only n old) as (λ _. IsMarked before n ⊎ IsAmong (i + 1) rows n) [
              | inl first ↦ inl first
              | inr among ↦ inr (one_more i rows n among)
            ]
      ];
  todo_kept = λ n is. in_push todo row n (v.todo_kept n is);
  todo_new = λ n is.
      elim (set_only marks row n is) as (λ _. IsMarked before n ⊎ IsIn (todo ++ row ∷ []) n) [
        | inl same ↦ inr (let P : ℕ → Type 0 = λ k. IsIn (todo ++ row ∷ []) k in subst P (sym same) (in_last todo row))
        | inr old ↦
            elim (v.todo_new n old) as (λ _. IsMarked before n ⊎ IsIn (todo ++ row ∷ []) n) [
              | inl first ↦ inl first
              | inr more ↦ inr (in_push todo row n more)
            ]
      ];
  todo_only = λ n is.
      elim (from_push todo row n is) as (λ _. IsIn todo_before n ⊎ IsMarked (set marks row true) n) [
        | inl old ↦
            elim (v.todo_only n old) as (λ _. IsIn todo_before n ⊎ IsMarked (set marks row true) n) [
              | inl first ↦ inl first
              | inr marked ↦ inr (set_keeps marks row n within marked)
            ]
        | inr same ↦ inr (let P : ℕ → Type 0 = λ k. IsMarked (set marks row true) k in subst P (sym same) (set_row marks row within))
      ];
  within = within_push todo row (length before) v.within (omega (arith, v.as_many));
  sum = omega (arith, v.sum, count_not-set marks row within off, length-append todo (row ∷ []));
}
