-- Rows with their words on slots.
use Rattle.std.proofs.Common.{◌≡◌, ℕ, zero, suc, ◌+◌, ◌<◌, ◌≤◌, Some, None, List, [], ◌∷◌, length, take, set, get_or, refl, sym, ap, ◌∙◌, arith}
use Rattle.std.proofs.lemmas.List.{take_all}
use Rattle.std.specs.List.{slice_get}
use Rattle.class_rows.specs.declared.row.MemberRow.{MemberRow}
use Rattle.class_rows.specs.declared.row.Virt.{Virt}
use Rattle.cli_slots.specs.Settled.{with_virt}
use Rattle.cli_slots.specs.Known.{with_virts}

some_is : {X : Type 0} (a b : X) → Some a ≡ Some b → a ≡ b
some_is a b h = cc

pub at_with : (rows : List MemberRow) (virts : List Virt) (n : ℕ) (row : MemberRow) (virt : Virt) → slice_get rows n ≡ Some row → slice_get virts n ≡ Some virt → slice_get (with_virts rows virts) n ≡ Some (with_virt virt row)
at_with [] virts n row virt h k = let e : None ≡ Some row = h in absurd cc
at_with (r ∷ rows) [] n row virt h k = let e : None ≡ Some virt = k in absurd cc
at_with (r ∷ rows) (v ∷ virts) zero row virt h k =
    ap (λ (x : MemberRow). Some (with_virt v x)) (some_is r row h) ∙ ap (λ (x : Virt). Some (with_virt x row)) (some_is v virt k)
at_with (r ∷ rows) (v ∷ virts) (suc n) row virt h k = at_with rows virts n row virt h k

pub of_with : (rows : List MemberRow) (virts : List Virt) (n : ℕ) (row : MemberRow) → length virts ≡ length rows → slice_get (with_virts rows virts) n ≡ Some row → (old : MemberRow) × (virt : Virt) × (slice_get rows n ≡ Some old) × (slice_get virts n ≡ Some virt) × (row ≡ with_virt virt old)
of_with [] virts n row long h = let e : None ≡ Some row = h in absurd cc
of_with (r ∷ rows) [] n row long h = absurd (omega (arith, long))
of_with (r ∷ rows) (v ∷ virts) zero row long h = (r, v, refl, refl, sym (some_is (with_virt v r) row h))
of_with (r ∷ rows) (v ∷ virts) (suc n) row long h = of_with rows virts n row (omega (arith, long)) h

pub length_with : (rows : List MemberRow) (virts : List Virt) → length (with_virts rows virts) ≡ length rows
length_with [] virts = refl
length_with (r ∷ rows) [] = refl
length_with (r ∷ rows) (v ∷ virts) = ap suc (length_with rows virts)

pub with_none : (rows : List MemberRow) → with_virts rows [] ≡ rows
with_none [] = refl
with_none (r ∷ rows) = refl

next_with : (rows : List MemberRow) (virts : List Virt) (m : ℕ) (d : Virt) (x : MemberRow) → m < length rows → m < length virts → x ≡ get_or (with_virts rows (take m virts)) m x → with_virts rows (take (suc m) virts) ≡ set (with_virts rows (take m virts)) m (with_virt (get_or virts m d) x)
next_with [] virts m d x lt less is = absurd (omega (arith, lt))
next_with (r ∷ rows) [] m d x lt less is = absurd (omega (arith, less))
next_with (r ∷ rows) (v ∷ virts) zero d x lt less is =
    ap (λ (y : MemberRow). with_virt v y ∷ with_virts rows []) (sym is) ∙ ap (λ (rs : List MemberRow). with_virt v x ∷ rs) (with_none rows)
next_with (r ∷ rows) (v ∷ virts) (suc m) d x lt less is =
    ap (λ (rs : List MemberRow). with_virt v r ∷ rs) (next_with rows virts m d x (omega (arith, lt)) (omega (arith, less)) is)

pub more_with : (rows : List MemberRow) (virts : List Virt) (m : ℕ) (d : Virt) (x : MemberRow) → m < length rows → m < length virts → x ≡ get_or (with_virts rows (take m virts)) m x → set (with_virts rows (take m virts)) m (with_virt (get_or virts m d) x) ≡ with_virts rows (take (m + 1) virts)
more_with rows virts m d x lt less is =
    let next : suc m ≡ m + 1 = omega arith in
    sym (next_with rows virts m d x lt less is) ∙ ap (λ (n : ℕ). with_virts rows (take n virts)) next

pub all_with : (rows : List MemberRow) (virts : List Virt) (m : ℕ) → length virts ≤ m → with_virts rows (take m virts) ≡ with_virts rows virts
all_with rows virts m le = ap (λ (vs : List Virt). with_virts rows vs) (take_all m virts le)
