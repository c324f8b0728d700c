-- Inner facts: members stand by owner, then by the name that C# knows them by, then by number.
use Rattle.std.specs.Prelude.{ℕ, ◌<◌, ◌≤◌, List, [], length, Option, Some, None, slice_get}
use Rattle.std.specs.List.{range_with_len, AllWithin}
use Rattle.std.specs.List.Sorted.{IsPermutation, IsSortedBy}
use Rattle.std.specs.declared.cmp.Ordering.{Ordering}
use Rattle.std.specs.Ordering.{nat_cmp, ordering_then, ordering_index, is_lt}
use Rattle.std.specs.Cmp.Lexicographic.{slice_cmp}
use Rattle.class_rows.specs.declared.row.MemberRow.{MemberRow}
use Rattle.class_rows.specs.Members.{known_as}

-- the owner of a member and the name that C# knows it by
abbrev pub key_at : Option MemberRow → ℕ × List ℕ
key_at None = (0, [])
key_at (Some row) = (row.owner.0, known_as row)

abbrev pub key_of : List MemberRow → ℕ → ℕ × List ℕ
key_of members n = key_at (slice_get members n)

abbrev pub key_cmp : ℕ × List ℕ → ℕ × List ℕ → Ordering
key_cmp a b = ordering_then (nat_cmp a.0 b.0) (slice_cmp nat_cmp a.1 b.1)

abbrev pub order_cmp : List MemberRow → ℕ → ℕ → Ordering
order_cmp members m n = ordering_then (key_cmp (key_of members m) (key_of members n)) (nat_cmp m n)

-- the numbers of all members in that order
pub record IsIndex (members : List MemberRow) (order : List ℕ) : Type 0 where
  pub all : IsPermutation (range_with_len 0 (length members)) order
  pub sorted : IsSortedBy (λ m n. is_lt (order_cmp members m n)) order

-- before what is sought (0), at it (1) or behind it (2)
abbrev pub key_place : List MemberRow → ℕ → List ℕ → ℕ → ℕ
key_place members t name n = ordering_index (key_cmp (key_of members n) (t, name))

abbrev pub owner_place : List MemberRow → ℕ → ℕ → ℕ
owner_place members t n = ordering_index (nat_cmp (key_of members n).0 t)

-- before it stands what has at most this place, and from it on what has a greater one
pub record IsPlaceOf (place : ℕ → ℕ) (most : ℕ) (order : List ℕ) (end : ℕ) : Type 0 where
  pub within : end ≤ length order
  pub below : AllWithin (λ n. place n ≤ most) order 0 end
  pub above : AllWithin (λ n. most < place n) order end (length order)
