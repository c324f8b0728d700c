-- Where a row stands among rows in order.
use Rattle.std.proofs.Common.{◌≡◌, ℕ, zero, suc, ◌/◌, ◌%◌, ◌^◌, ◌<◌, ◌≤◌, true, false, Some, List, [], ◌∷◌, length, get_or, inl, inr, refl, sym, subst, arith}
use Rattle.std.specs.List.{slice_get}
use Rattle.std.specs.List.Sorted.{IsPartitionPoint, IsPartitionedBy, IsNonDecreasingBy}
use Rattle.std.proofs.Math.Dec.{ltb}
use Rattle.std.proofs.lemmas.Bool.{cases_lt, cases_order, ltb-true, ltb-false}
use Rattle.std.proofs.lemmas.List.Sorted.{IsPartitionedBy-ltb}
use Rattle.std.proofs.lemmas.Option.{slice_get_within}
use Rattle.class_keys.proofs.Items.{one_item}
use Rattle.dc_base.specs.declared.names.Token.{Token}
use Rattle.cli_members.specs.declared.numbers.Owned.{Owned}
use Rattle.cli_members.specs.Members.{AreInOrder, IsPlace, IsNamed, a_field, a_method}

item : {X : Type 0} (xs : List X) (n : ℕ) (d : X) → n < length xs → slice_get xs n ≡ Some (get_or xs n d)
item [] n d lt = absurd (omega arith)
item (x ∷ xs) zero d lt = refl
item (x ∷ xs) (suc n) d lt = item xs n d (omega arith)

rising : (owned : List Owned) → AreInOrder owned → IsNonDecreasingBy (λ (o : Owned). o.row) owned
rising owned in_order i j d le lt = elim (cases_lt i j) [
  | inl less ↦
      let up : (get_or owned i d).row < (get_or owned j d).row = in_order i j (get_or owned i d) (get_or owned j d) less (item owned i d (omega (arith, le, lt))) (item owned j d lt) in
      omega (arith, up)
  | inr ge ↦
      let same : i ≡ j = omega (arith, le, ge) in
      subst (λ (k : ℕ). (get_or owned i d).row ≤ (get_or owned k d).row) same (let itself : (get_or owned i d).row ≤ (get_or owned i d).row = omega arith in itself)
]

pub parted : (owned : List Owned) (row : ℕ) → AreInOrder owned → IsPartitionedBy (λ (o : Owned). ltb o.row row) owned
parted owned row in_order = IsPartitionedBy-ltb (λ (o : Owned). o.row) owned row (rising owned in_order)

abbrev pub IsPoint : List Owned → ℕ → ℕ → Type 0
IsPoint owned row r = IsPartitionPoint (λ (o : Owned). ltb o.row row ≡ true) (λ (o : Owned). ltb o.row row ≡ false) owned r

-- a row that stands somewhere stands at the first place whose row isn't less
at_point : (owned : List Owned) (row r place : ℕ) → AreInOrder owned → IsPoint owned row r → IsPlace owned row place → place ≡ r
at_point owned row r place in_order point is =
    let inside = slice_get_within owned place is.o is.stands in
    let e : is.o ≡ get_or owned place is.o = one_item owned place is.o (get_or owned place is.o) is.stands (item owned place is.o inside) in
    let same = is.same in
    elim (cases_order place r) [
      | inl there ↦ there
      | inr w ↦ elim w [
        | inl before ↦
            let less : is.o.row < row = subst (λ (x : Owned). x.row < row) (sym e) (ltb-true (get_or owned place is.o).row row (point.0 place is.o (omega arith) before)) in
            absurd (omega (arith, less, same))
        | inr behind ↦
            let within : r < length owned = omega (arith, behind, inside) in
            let least : row ≤ (get_or owned r is.o).row = ltb-false (get_or owned r is.o).row row (point.1 r is.o (omega arith) within) in
            let up : (get_or owned r is.o).row < is.o.row = in_order r place (get_or owned r is.o) is.o behind (item owned r is.o within) is.stands in
            absurd (omega (arith, least, up, same))
      ]
    ]

pub over_end : (owned : List Owned) (row r place : ℕ) → AreInOrder owned → IsPoint owned row r → length owned ≤ r → IsPlace owned row place → ⊥
over_end owned row r place in_order point over is =
    let inside = slice_get_within owned place is.o is.stands in
    let there : place ≡ r = at_point owned row r place in_order point is in
    omega (arith, inside, there, over)

pub other_row : (owned : List Owned) (row r place : ℕ) (d : Owned) → AreInOrder owned → IsPoint owned row r → r < length owned → ((get_or owned r d).row ≡ row → ⊥) → IsPlace owned row place → ⊥
other_row owned row r place d in_order point within other is =
    let there : place ≡ r = at_point owned row r place in_order point is in
    let stands : slice_get owned r ≡ Some is.o = subst (λ (k : ℕ). slice_get owned k ≡ Some is.o) there is.stands in
    let e : is.o ≡ get_or owned r d = one_item owned r is.o (get_or owned r d) stands (item owned r d within) in
    other (subst (λ (x : Owned). x.row ≡ row) e is.same)

-- ---- tokens

pub no_field : (fields methods : List Owned) (own_from : ℕ) (token : Token) (m : ℕ) → token.0 / 2 ^ 24 ≡ 0x04 → ((place : ℕ) → IsPlace fields (token.0 % 2 ^ 24) place → ⊥) → IsNamed fields methods own_from token m → ⊥
no_field fields methods own_from token m is none (a_field place t p) = none place p
no_field fields methods own_from token m is none (a_method place t p) = omega (arith, is, t)

pub no_method : (fields methods : List Owned) (own_from : ℕ) (token : Token) (m : ℕ) → token.0 / 2 ^ 24 ≡ 0x06 → ((place : ℕ) → IsPlace methods (token.0 % 2 ^ 24) place → ⊥) → IsNamed fields methods own_from token m → ⊥
no_method fields methods own_from token m is none (a_field place t p) = omega (arith, is, t)
no_method fields methods own_from token m is none (a_method place t p) = none place p
