-- Rows of members that were read one by one.
use Rattle.std.proofs.Common.{◌≡◌, ℕ, ◌+◌, Some, None, List, [], ◌∷◌, ◌++◌, length, length-append, inl, inr, sym, subst, ap, ◌∙◌, arith}
use Rattle.std.specs.List.{slice_get}
use Rattle.class_keys.proofs.Items.{one_item, pushed_item}
use Rattle.class_rows.specs.declared.row.MemberRow.{MemberRow}
use Rattle.cli_members.specs.declared.numbers.Owned.{Owned}

-- the rows of the first i members
pub record AreSoFar (Is : Owned → MemberRow → Type 0) (owned : List Owned) (i : ℕ) (rows : List MemberRow) : Type 0 where
  pub long : length rows ≡ i
  pub each : (j : ℕ) (o : Owned) (row : MemberRow) → slice_get owned j ≡ Some o → slice_get rows j ≡ Some row → Is o row

pub none_so_far : (Is : Owned → MemberRow → Type 0) (owned : List Owned) → AreSoFar Is owned 0 []
none_so_far Is owned = record { long = (let e : length {A = MemberRow} [] ≡ 0 = omega arith in e); each = λ j o row at_o at. let e : None ≡ Some row = at in absurd cc }

pub one_more : (Is : Owned → MemberRow → Type 0) (owned : List Owned) (i : ℕ) (o : Owned) (row : MemberRow) (rows after : List MemberRow) → slice_get owned i ≡ Some o → Is o row → after ≡ rows ++ (row ∷ []) → AreSoFar Is owned i rows → AreSoFar Is owned (i + 1) after
one_more Is owned i o row rows after at is same so = record {
  long = ap length same ∙ length-append rows (row ∷ []) ∙ ap (λ (n : ℕ). n + 1) so.long;
  each = λ j p found at_p at_found.
      elim (pushed_item rows row j found (subst (λ (xs : List MemberRow). slice_get xs j ≡ Some found) same at_found)) [
        | inl old ↦ so.each j p found at_p old
        | inr new ↦
            let there : slice_get owned i ≡ Some p = subst (λ (n : ℕ). slice_get owned n ≡ Some p) (new.0 ∙ so.long) at_p in
            let e : o ≡ p = one_item owned i o p at there in
            subst (λ (x : MemberRow). Is p x) (sym new.1) (subst (λ (x : Owned). Is x row) e is)
      ];
}
