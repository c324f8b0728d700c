-- The walk over what is still to do.
use Rattle.std.proofs.Common.{◌≡◌, ◌⊎◌, ℕ, ◌<◌, ◌++◌, Bool, false, List, [], ◌∷◌, length, get_or, unwrap_or, Contains, sym, ◌∙◌, ap, subst, inl, inr, arith}
use Rattle.std.proofs.lemmas.List.{get_or_default}
use Rattle.std.proofs.lemmas.Bool.{cases_lt}
use Rattle.std.proofs.lemmas.Option.{slice_get_past}
use Rattle.cli_reached.specs.Reached.{named_by, IsReached, root, named, AreReached}
use Rattle.cli_reached.specs.Visited.{IsIn, IsMarked, AreVisited, AreNamesMarked, AreUnderWay}
use Rattle.cli_reached.proofs.Visiting.{in_push, in_last, from_push}

-- what stands among all of a list is in it
stands : (rows : List ℕ) (row : ℕ) → IsIn rows row → Contains rows row
stands rows row (k, lt, is) = (k, lt, get_or_default rows k row 0 lt ∙ is)

among : (rows : List ℕ) (row : ℕ) → Contains rows row → IsIn rows row
among rows row (k, lt, is) = (k, lt, get_or_default rows k 0 row lt ∙ is)

none_in : (row : ℕ) → IsIn [] row → ⊥
none_in row (k, lt, _) = absurd (omega arith)

not_both : (marks : List Bool) (row : ℕ) → get_or marks row false ≡ false → IsMarked marks row → ⊥
not_both marks row off on = cc

-- the roots were visited
pub begun : (roots : List ℕ) (names : List (List ℕ)) (before marks : List Bool) (todo : List ℕ)
    → length before ≡ length names → ((n : ℕ) → get_or before n false ≡ false)
    → AreVisited (length roots) roots before [] marks todo → AreUnderWay roots names marks todo
begun roots names before marks todo as_many none v =
    let sound : (row : ℕ) → IsMarked marks row → IsReached roots names row =
    λ row is.
    elim (v.only row is) as (λ _. IsReached roots names row) [
      | inl old ↦ absurd (not_both before row (none row) old)
      | inr root_ ↦ root row (stands roots row root_)
    ] in
    record {
      as_many = v.as_many ∙ as_many;
      within = λ k lt. omega (arith, v.within k lt, as_many);
      sound = sound;
      todo_sound = λ row is.
          elim (v.todo_only row is) as (λ _. IsReached roots names row) [
            | inl old ↦ absurd (none_in row old)
            | inr marked ↦ sound row marked
          ];
      roots_marked = λ k lt below. v.marked k lt (omega (arith, as_many));
      closed = λ row is.
          elim (v.todo_new row is) as (λ _. IsIn todo row ⊎ AreNamesMarked names marks row) [
            | inl old ↦ absurd (not_both before row (none row) old)
            | inr more ↦ inl more
          ];
    }

-- one row less is to do, and what it names was visited
pub gone_on : (roots : List ℕ) (names : List (List ℕ)) (before marks : List Bool) (rest todo : List ℕ) (row : ℕ)
    → AreUnderWay roots names before (rest ++ row ∷ [])
    → AreVisited (length (named_by names row)) (named_by names row) before rest marks todo
    → AreUnderWay roots names marks todo
gone_on roots names before marks rest todo row u v =
    let reached_row : IsReached roots names row = u.todo_sound row (in_last rest row) in
    let sound : (n : ℕ) → IsMarked marks n → IsReached roots names n =
    λ n is.
    elim (v.only n is) as (λ _. IsReached roots names n) [
      | inl old ↦ u.sound n old
      | inr among_ ↦ named row n reached_row (stands (named_by names row) n among_)
    ] in
    record {
      as_many = v.as_many ∙ u.as_many;
      within = λ k lt. omega (arith, v.within k lt, u.as_many);
      sound = sound;
      todo_sound = λ n is.
          elim (v.todo_only n is) as (λ _. IsReached roots names n) [
            | inl old ↦ u.todo_sound n (in_push rest row n old)
            | inr marked ↦ sound n marked
          ];
      roots_marked = λ k lt below. v.kept _ (u.roots_marked k lt below);
      closed = λ n is.
          elim (v.todo_new n is) as (λ _. IsIn todo n ⊎ AreNamesMarked names marks n) [
            | inl old ↦
                elim (u.closed n old) as (λ _. IsIn todo n ⊎ AreNamesMarked names marks n) [
                  | inl open_ ↦
                      elim (from_push rest row n open_) as (λ _. IsIn todo n ⊎ AreNamesMarked names marks n) [
                        | inl further ↦ inl (v.todo_kept n further)
                        | inr same ↦
                            inr (
                            let P : ℕ → Type 0 = λ m. AreNamesMarked names marks m in
                            subst P (sym same) (λ k lt below. v.marked k lt (omega (arith, u.as_many)))
                            )
                      ]
                  | inr done ↦ inr (λ k lt below. v.kept _ (done k lt below))
                ]
            | inr more ↦ inl more
          ];
    }

-- nothing is to do: each row that is reached is marked
all_marked : (roots : List ℕ) (names : List (List ℕ)) (marks : List Bool) → AreUnderWay roots names marks []
    → (row : ℕ) → IsReached roots names row → row < length names → IsMarked marks row
all_marked roots names marks u row (root _ is) lt =
    let found = among roots row is in
    let P : ℕ → Type 0 = λ n. n < length names → IsMarked marks n in
    subst P found.2 (u.roots_marked found.0 found.1) lt
all_marked roots names marks u row (named by _ from is) lt =
    elim (cases_lt by (length names)) as (λ _. IsMarked marks row) [
      | inl below ↦
          elim (u.closed by (all_marked roots names marks u by from below)) as (λ _. IsMarked marks row) [
            | inl open_ ↦ absurd (none_in by open_)
            | inr done ↦
                let found = among (named_by names by) row is in
                let P : ℕ → Type 0 = λ n. n < length names → IsMarked marks n in
                subst P found.2 (done found.0 found.1) lt
          ]
      | inr above ↦
          let empty : named_by names by ≡ [] = ap (λ o. unwrap_or o []) (slice_get_past names by above) in
          let P : List ℕ → Type 0 = λ rows. IsIn rows row in
          absurd (none_in row (subst P empty (among (named_by names by) row is)))
    ]

pub ended : (roots : List ℕ) (names : List (List ℕ)) (marks : List Bool) → AreUnderWay roots names marks [] → AreReached roots names marks
ended roots names marks u = record {
  as_many = u.as_many;
  yes = u.sound;
  no = λ row lt off reached. not_both marks row off (all_marked roots names marks u row reached lt);
}
